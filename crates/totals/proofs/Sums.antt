-- Laws of `sum_of` over any list, of the five sums over a list of pairs, and of five sums that stay small, as the loops of `totals` and `marks` make them.
-- Assumes nothing.
use mathlib.Core.Path.{◌≡◌}
use Prim.Native.Nat.{ℕ, ◌+◌, ◌*◌, ◌<◌, ◌≤◌}
use native.Mathlib.Omega.{arith}
use native.Mathlib.Numerals.{add-one}
use mathlib.Core.List.{List, [], ◌∷◌, ◌++◌}
use lib.ListN.{length, get_or, take}
use lib.Seq.{take-suc}
use Rattle.rules.specs.Basics.{five}
use Rattle.totals.specs.declared.PairLower.{PairLower}
use Rattle.totals.specs.Total.{Most, lower_of, sum_in, sum_of, totals}

module _ {X : Type 0} (f : X → ℕ) where
  pub sum-snoc : (l : List X) (p : X) → sum_of f (l ++ (p ∷ [])) ≡ sum_of f l + f p
  unfolding sum_of
  sum-snoc [] p = omega arith
  sum-snoc (x ∷ xs) p = omega (arith, sum-snoc xs p)

  -- one element more
  pub sum_next : (l : List X) (i : ℕ) (d : X) → i < length l → sum_of f (take i l) + f (get_or l i d) ≡ sum_of f (take (i + 1) l)
  sum_next l i d h = rw (add-one, take-suc l i d, sum-snoc)

-- one pair more
module _ (l : List PairLower) (i : ℕ) (d : PairLower) (h : i < length l) where
  pub totals_next : five (sum_in (totals (take i l)) (get_or l i d).lower) ≡ totals (take (i + 1) l)
  totals_next = rw (sum_next (lower_of 0) l i d h, sum_next (lower_of 1) l i d h, sum_next (lower_of 2) l i d h, sum_next (lower_of 3) l i d h, sum_next (lower_of 4) l i d h)

-- ---- five sums are small

-- before the first
pub most_none : Most 0 (0 ∷ 0 ∷ 0 ∷ 0 ∷ 0 ∷ [])
most_none = record { first = omega arith; second = omega arith; third = omega arith; fourth = omega arith; fifth = omega arith }

-- after as many as fit a `u64`
pub most_fits : (n i : ℕ) (sums : List ℕ) → Most n sums → n ≤ i → Most i sums
most_fits n i sums m h =
    record {
      first = omega (arith, m.first);
      second = omega (arith, m.second);
      third = omega (arith, m.third);
      fourth = omega (arith, m.fourth);
      fifth = omega (arith, m.fifth);
    }

-- five MW more
pub most_plus : (i : ℕ) (sums mw after : List ℕ) → Most (i * 4294967295) sums → (after ≡ five (sum_in sums mw)) × Most 4294967295 mw → Most ((i + 1) * 4294967295) after
most_plus i sums mw after m e =
    let n = e.1 in
    rw e.0 (record {
      first = omega (arith, m.first, n.first);
      second = omega (arith, m.second, n.second);
      third = omega (arith, m.third, n.third);
      fourth = omega (arith, m.fourth, n.fourth);
      fifth = omega (arith, m.fifth, n.fifth);
    })
