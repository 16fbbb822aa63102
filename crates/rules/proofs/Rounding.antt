-- 02, S-4: a quotient rounded down, and the sum of such quotients against the quotient of the sum, for any list of lower values.
-- Assumes nothing.
use Rattle.std.specs.Prelude.{sum}
use Rattle.std.proofs.lemmas.List.Sums.{sum_by-cons}
use Prim.Native.Nat.{ℕ, ◌+◌, ◌-◌, ◌*◌, ◌/◌, ◌≤◌, ◌<◌}
use mathlib.Core.Path.{◌≡◌, refl}
use mathlib.Core.Bool.{Bool, true, false, cond}
use mathlib.Core.List.{List, [], ◌∷◌, map}
use native.Mathlib.Nat.{le_refl, div-mul-le_self, lt-mul-div-succ, mul_comm, mul-le-mul_left, mul-le-mul_right, div-le_of_le-mul, le_of_mul-le-mul_right}
use native.Mathlib.Omega.{arith}
use lib.Dec.{ltb}
use borrow.Author.Tests.{ltb-true, ltb-false, lt-ltb, le-ltb}
use Rattle.rules.specs.Nominations.{confirmed_of}
use Rattle.rules.specs.Rounding.{RoundedDown, count_above_zero, confirmed_list, RoundingLosesLittle}
use Rattle.rules.proofs.Sums.{sum_more}

-- ---- one lower value

pub confirmed_le : (R T m : ℕ) → confirmed_of R T m ≤ m
unfolding confirmed_of
confirmed_le R T m = go (ltb R T) refl
  where
    go : (t : Bool) → ltb R T ≡ t → confirmed_of R T m ≤ m
    go true e = rw (e, confirmed_of) (div-le_of_le-mul T (omega (arith, mul-le-mul_left m (ltb-true R T e))))
    go false e = rw (e, confirmed_of) (le_refl m)

pub confirmed_rounded : (R T m : ℕ) → R < T → RoundedDown R T m (confirmed_of R T m)
unfolding confirmed_of
confirmed_rounded R T m h =
    rw (lt-ltb R T h)
    (record { not_above = div-mul-le_self (m * R) T; next_above = rw (mul_comm (m * R / T + 1) T) (lt-mul-div-succ (m * R) (omega arith)) })

-- ---- a list of them

above_more : (m : ℕ) (ms : List ℕ) → count_above_zero (m ∷ ms) ≡ cond (ltb 0 m) 1 0 + count_above_zero ms
above_more m ms = sum_by-cons (λ (x : ℕ). cond (ltb 0 x) 1 0) m ms

-- the confirmed MW of each of these lower values, T being any total
abbrev each_confirmed : ℕ → ℕ → List ℕ → List ℕ
each_confirmed R T ms = map (λ m. confirmed_of R T m) ms

sum_not_above : (R T : ℕ) → R < T → (ms : List ℕ) → sum (each_confirmed R T ms) * T ≤ sum ms * R
sum_not_above R T h [] = omega arith
sum_not_above R T h (m ∷ ms) =
    rw (sum_more m ms, sum_more (confirmed_of R T m) (each_confirmed R T ms)) (omega (arith, (confirmed_rounded R T m h).not_above, sum_not_above R T h ms))

-- each value above 0 leaves its next quotient at least 1 above
sum_next_above : (R T : ℕ) → R < T → (ms : List ℕ) → sum ms * R + count_above_zero ms ≤ (sum (each_confirmed R T ms) + count_above_zero ms) * T
sum_next_above R T h [] = omega arith
sum_next_above R T h (m ∷ ms) =
    rw (sum_more m ms, above_more m ms, sum_more (confirmed_of R T m) (each_confirmed R T ms)) (go (ltb 0 m) refl (sum_next_above R T h ms))
  where
    go : (t : Bool) → ltb 0 m ≡ t → sum ms * R + count_above_zero ms ≤ (sum (each_confirmed R T ms) + count_above_zero ms) * T
        → (m + sum ms) * R + (cond t 1 0 + count_above_zero ms) ≤ (confirmed_of R T m + sum (each_confirmed R T ms) + (cond t 1 0 + count_above_zero ms)) * T
    go true e rest = omega (arith, (confirmed_rounded R T m h).next_above, rest)
    go false e rest =
        let z : m ≡ 0 = omega (arith, ltb-false 0 m e) in
        rw z (omega (arith, rest))

some_above : (ms : List ℕ) → 0 < sum ms → 0 < count_above_zero ms
some_above [] h = absurd (omega (arith, h))
some_above (m ∷ ms) h = rw (above_more m ms) (go (ltb 0 m) refl (some_above ms))
  where
    go : (t : Bool) → ltb 0 m ≡ t → (0 < sum ms → 0 < count_above_zero ms) → 0 < cond t 1 0 + count_above_zero ms
    go true e rest = omega arith
    go false e rest = omega (arith, rest (omega (arith, rw (sum_more m ms) at h, ltb-false 0 m e)))

-- ---- a list of lower values, T being their sum

-- where the sum isn't above the right, each is confirmed whole
plain : (R T : ℕ) → T ≤ R → (ms : List ℕ) → each_confirmed R T ms ≡ ms
unfolding confirmed_of
plain R T h [] = refl
plain R T h (m ∷ ms) = rw (le-ltb R T h, plain R T h ms) refl

pub sum_within : (R : ℕ) (ms : List ℕ) → sum (confirmed_list R ms) ≤ R
sum_within R ms = go (ltb R (sum ms)) refl
  where
    go : (t : Bool) → ltb R (sum ms) ≡ t → sum (confirmed_list R ms) ≤ R
    go true e =
        let h = ltb-true R (sum ms) e in
        le_of_mul-le-mul_right {k = sum ms} (omega (arith, sum_not_above R (sum ms) h ms)) (omega arith)
    go false e = let h = ltb-false R (sum ms) e in rw (plain R (sum ms) h ms) h

pub sum_little_lost : (R : ℕ) (ms : List ℕ) → R < sum ms → R - sum (confirmed_list R ms) < count_above_zero ms
sum_little_lost R ms h = go (ltb (R - sum (confirmed_list R ms)) (count_above_zero ms)) refl
  where
    go : (t : Bool) → ltb (R - sum (confirmed_list R ms)) (count_above_zero ms) ≡ t → R - sum (confirmed_list R ms) < count_above_zero ms
    go true e = ltb-true _ _ e
    go false e =
        let most : sum (confirmed_list R ms) + count_above_zero ms ≤ R = omega (arith, ltb-false _ (count_above_zero ms) e, sum_within R ms) in
        absurd (omega (arith, sum_next_above R (sum ms) h ms, mul-le-mul_right (sum ms) most, some_above ms (omega arith)))

one_at_most : (R T m c d : ℕ) → RoundedDown R T m c → RoundedDown R T m d → c ≤ d
one_at_most R T m c d p q = go (ltb d c) refl
  where
    go : (t : Bool) → ltb d c ≡ t → c ≤ d
    go true e =
        let more : (d + 1) * T ≤ c * T = mul-le-mul_right T (omega (arith, ltb-true d c e)) in
        absurd (omega (arith, more, p.not_above, q.next_above))
    go false e = ltb-false d c e

pub rounding_loses_little : RoundingLosesLittle
rounding_loses_little =
    record {
      rounded_down = confirmed_rounded;
      one_value = λ R T m c d p q. omega (arith, one_at_most R T m c d p q, one_at_most R T m d c q p);
      within = sum_within;
      little_lost = sum_little_lost;
      nothing_lost = λ R ms cs h e. omega (arith, e, some_above ms (omega (arith, h)));
    }
