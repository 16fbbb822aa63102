-- Bit k of a nomination's marks stands exactly where the side's total is above the right in hour k of the session.
-- Assumes nothing.
use Prim.Native.Nat.{ℕ, zero, suc, ◌<◌}
use mathlib.Core.Path.{◌≡◌}
use mathlib.Core.List.{List}
use native.Mathlib.Omega.{arith}
use Rattle.rules.specs.Basics.{bit}
use Rattle.rules.specs.Book.{Right, Pair}
use Rattle.rules.specs.Nominations.{above_right, marks}
use Rattle.rules.proofs.Bits.{bit_of_map}

pub mark_is : (rs : List Right) (ps : List Pair) (r side k : ℕ) → k < 5 → bit (marks rs ps r side) k ≡ above_right rs ps r side k
unfolding marks
mark_is rs ps r side zero h = bit_of_map _ 0
mark_is rs ps r side (suc zero) h = bit_of_map _ 1
mark_is rs ps r side (suc (suc zero)) h = bit_of_map _ 2
mark_is rs ps r side (suc (suc (suc zero))) h = bit_of_map _ 3
mark_is rs ps r side (suc (suc (suc (suc zero)))) h = bit_of_map _ 4
mark_is rs ps r side (suc (suc (suc (suc (suc k))))) h = absurd (omega arith)
