-- A map made of bits has just these bits, and is below the power of two that their count gives.
-- Assumes nothing.
use Prim.Native.Nat.{ℕ, zero, suc, ◌+◌, ◌*◌, ◌/◌, ◌%◌, ◌^◌, ◌<◌}
use mathlib.Core.Path.{◌≡◌, ◌∙◌}
use mathlib.Core.Bool.{Bool, true, false, cond}
use mathlib.Core.List.{List, [], ◌∷◌}
use native.Mathlib.Omega.{arith}
use native.Mathlib.Nat.{zero-div, pow-succ', div-div-eq-div-mul}
use lib.ListN.{length, get_or}
use Rattle.rules.specs.Basics.{bit, map_of}

half : (p : Bool) (n : ℕ) → (cond p 1 0 + 2 * n) / 2 ≡ n
half true n = omega arith
half false n = omega arith

lowest : (p : Bool) (n : ℕ) → bit (cond p 1 0 + 2 * n) 0 ≡ p
unfolding bit
lowest true n = let e : (1 + 2 * n) / 2 ^ 0 % 2 ≡ 1 = omega arith in rw e
lowest false n = let e : (0 + 2 * n) / 2 ^ 0 % 2 ≡ 0 = omega arith in rw e

next : (p : Bool) (n i : ℕ) → bit (cond p 1 0 + 2 * n) (suc i) ≡ bit n i
unfolding bit
next p n i = rw (pow-succ' 2 i, ← div-div-eq-div-mul (cond p 1 0 + 2 * n) 2 (2 ^ i), half p n)

pub bit_of_map : (ps : List Bool) (i : ℕ) → bit (map_of ps) i ≡ get_or ps i false
unfolding map_of bit
bit_of_map [] i = rw (zero-div (2 ^ i))
bit_of_map (p ∷ ps) zero = lowest p (map_of ps)
bit_of_map (p ∷ ps) (suc i) = next p (map_of ps) i ∙ bit_of_map ps i

pub map_below : (ps : List Bool) → map_of ps < 2 ^ length ps
unfolding map_of
map_below [] = omega arith
map_below (true ∷ ps) = rw (pow-succ' 2 (length ps)) (omega (arith, map_below ps))
map_below (false ∷ ps) = rw (pow-succ' 2 (length ps)) (omega (arith, map_below ps))
