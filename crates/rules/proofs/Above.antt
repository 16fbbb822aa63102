-- Lists in which no number is above a most.
-- Assumes nothing.
use Prim.Native.Nat.{ℕ, zero, suc, ◌+◌, ◌-◌, ◌≤◌, zero-le}
use mathlib.Core.Path.{◌≡◌}
use mathlib.Core.Bool.{false}
use mathlib.Core.List.{List, [], ◌∷◌}
use native.Mathlib.Omega.{arith}
use borrow.Author.Tests.{ltb-false}
use lib.Dec.{ltb}
use lib.ListN.{get_or, drop}
use lib.Seq.{get_or-drop}
use Rattle.rules.specs.Basics.{any_above}
use Rattle.rules.proofs.Bools.{or_left, or_right}

pub at_most : (most : ℕ) (xs : List ℕ) → any_above most xs ≡ false → (i : ℕ) → get_or xs i 0 ≤ most
unfolding any_above
at_most most [] e i = zero-le
at_most most (x ∷ xs) e zero = ltb-false most x (or_left _ _ e)
at_most most (x ∷ xs) e (suc i) = at_most most xs (or_right (ltb most x) _ e) i

-- none from number n on is above 0
pub zeros_from : (n : ℕ) (xs : List ℕ) → any_above 0 (drop n xs) ≡ false → (k : ℕ) → n ≤ k → get_or xs k 0 ≡ 0
zeros_from n xs e k l =
    let s : n + (k - n) ≡ k = omega arith in
    let h : get_or xs k 0 ≤ 0 = rw (get_or-drop n xs (k - n) 0, s) at (at_most 0 (drop n xs) e (k - n)) in
    omega arith
