-- A map that has a bit past the first n.
-- Assumes nothing.
use Prim.Native.Nat.{ℕ, ◌/◌, ◌^◌, ◌≤◌}
use mathlib.Core.Path.{◌≡◌, refl}
use mathlib.Core.Bool.{Bool, true, false, not}
use native.Mathlib.Nat.{div-eq_of_lt, le-div_iff_mul-le}
use native.Mathlib.Omega.{arith}
use lib.Dec.{eqb, leb}
use lib.Pow.{ones_lt}
use borrow.Author.Tests.{leb-true, leb-false, ne_eqb}

pub past_bits : (map n : ℕ) → not (eqb (map / 2 ^ n) 0) ≡ leb (2 ^ n) map
past_bits map n = go (leb (2 ^ n) map) refl
  where
    go : (t : Bool) → leb (2 ^ n) map ≡ t → not (eqb (map / 2 ^ n) 0) ≡ t
    go true e =
        let l = leb-true (2 ^ n) map e in
        let one : 1 ≤ map / 2 ^ n = (le-div_iff_mul-le {k = 2 ^ n} {x = 1} {y = map} (omega (arith, ones_lt n))).1 (omega arith) in
        rw (ne_eqb (map / 2 ^ n) 0 (λ z. omega arith))
    go false e = rw (div-eq_of_lt {n = map} {m = 2 ^ n} (leb-false (2 ^ n) map e))
