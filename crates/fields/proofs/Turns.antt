-- One turn of each loop over fields: what is left from a field on.
-- Assumes nothing.
use Rattle.std.proofs.Common.{◌≡◌, ℕ, ◌+◌, ◌*◌, ◌%◌, ◌^◌, ◌≤◌, ◌<◌, suc, Bool, true, false, cond, ◌||◌, ◌&&◌, not, List, eqb, length, get_or, drop, refl, add-one, arith}
use Rattle.std.proofs.lemmas.List.{drop_more}
use mir.Val.{bool_byte}
use lib.ListN.{drop_of_length-le}
use lib.Pow.{pow_mono}
use Rattle.std.proofs.Math.Nat.{mul-add, mul_assoc, mul_comm, pow-succ', mod-eq_of_lt}
use Rattle.rules.specs.Basics.{map_of, has}
use Rattle.rules.specs.Records.{Kind, stands, standing, foreign}
use Rattle.rules.proofs.Bits.{map_below}
use Rattle.rules.proofs.Records.{standing_length}

pub foreign_next : (k : Kind) (vs : List ℕ) (i : ℕ) → i < length vs
    → foreign k i (drop i vs) ≡ ((not (has i k.always || has i k.mws) && not (eqb (get_or vs i 0) 0)) || foreign k (i + 1) (drop (i + 1) vs))
unfolding foreign
foreign_next k vs i l = rw (drop_more vs i 0 l, add-one i)

pub foreign_done : (k : Kind) (vs : List ℕ) (i : ℕ) → length vs ≤ i → foreign k i (drop i vs) ≡ false
unfolding foreign
foreign_done k vs i l = rw (drop_of_length-le vs l)

-- ---- the map, bit by bit from bit 0 up

one_if : (p : Bool) → cond p 1 0 ≡ bool_byte p
one_if true = refl
one_if false = refl

-- bit b at the place with the power P, and the bits above it
raised : (b P T : ℕ) → P * (b + 2 * T) ≡ b * P + 2 * P * T
raised b P T = rw (mul-add P b (2 * T), mul_comm P b, ← mul_assoc P 2 T, mul_comm P 2)

small : (p : Bool) (P : ℕ) → P ≤ 16384 → bool_byte p * P % 4294967296 ≡ bool_byte p * P
small true P h = mod-eq_of_lt (omega arith)
small false P h = mod-eq_of_lt (omega arith)

module _ (k : Kind) (vs : List ℕ) (n : length vs ≡ 15) (i m : ℕ) (l : i < 15) {p : Bool} (e : p ≡ stands k i (get_or vs i 0))
    (so_far : map_of (standing k 0 vs) ≡ m + 2 ^ i * map_of (standing k i (drop i vs))) where
  pub map_next : map_of (standing k 0 vs) ≡ m + bool_byte p * 2 ^ i % 4294967296 + 2 ^ (i + 1) * map_of (standing k (i + 1) (drop (i + 1) vs))
  unfolding map_of standing
  map_next =
      let inside : i < length vs = omega arith in
      let place : i ≤ 14 = omega arith in
      let power : 2 ^ i ≤ 16384 = pow_mono place in
      let here = rw (drop_more vs i 0 inside, ← e, add-one i, one_if p, raised (bool_byte p) (2 ^ i) (map_of (standing k (suc i) (drop (suc i) vs)))) at so_far in
      rw (small p (2 ^ i) power, add-one i, pow-succ' 2 i) (omega arith)

  pub map_fits : m + bool_byte p * 2 ^ i % 4294967296 < 4294967296
  map_fits =
      let most : length (standing k 0 vs) ≤ 15 = rw (standing_length k 0 vs) (omega arith) in
      let below : map_of (standing k 0 vs) < 32768 = omega (arith, map_below (standing k 0 vs), pow_mono most) in
      let all = map_next in omega arith

pub map_done : (k : Kind) (vs : List ℕ) (i : ℕ) → length vs ≤ i → map_of (standing k i (drop i vs)) ≡ 0
unfolding map_of standing
map_done k vs i l = rw (drop_of_length-le vs l)
