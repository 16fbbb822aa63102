-- `rules::has_bit` meets its contract.
-- Assumes nothing.
use Prim.Native.Nat.{ℕ, ◌^◌, ◌≤◌, ◌<◌}
use mathlib.Core.Path.{◌≡◌, refl}
use mathlib.Core.Bool.{false}
use native.Mathlib.Nat.{le_trans, div-eq_of_lt}
use lib.Pow.{pow_mono}
use native.Mathlib.Omega.{arith}
use borrow.Author.Tests.{le-ltb}
use Rattle.rules.specs.Basics.{bit}
use Rattle.rules.proofs.has_bit.Goals as goal

-- a number of 32 bits has no bit past them
far_bit : (map i : ℕ) → map < 2 ^ 32 → 32 ≤ i → bit map i ≡ false
unfolding bit
far_bit map i l h = rw (div-eq_of_lt (le_trans l (pow_mono h)))

pub returns-then-at-lt32 : goal.returns-then-at-lt32
unfolding bit
returns-then-at-lt32 c = refl

pub returns-else-at-lt32 : goal.returns-else-at-lt32
returns-else-at-lt32 c = let l : c.args.map < 2 ^ 32 = omega arith in
    rw (far_bit c.args.map c.args.at l c.if-at-lt32.false) (le-ltb _ 32 c.if-at-lt32.false)
