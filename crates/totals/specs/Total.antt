-- The sums over a list of pairs of the lower of the two sides, one for each hour of the session.
-- Assumes nothing.
use Rattle.std.specs.Prelude.{ℕ, ◌+◌, ◌≤◌, List, [], ◌∷◌, get_or}
use Rattle.rules.specs.Basics.{five}
use Rattle.totals.specs.declared.PairLower.{PairLower}

-- the lower of the two sides in hour k of the session
abbrev pub lower_of : ℕ → PairLower → ℕ
lower_of k x = get_or x.lower k 0

-- the sum of f over a list
unfoldable pub sum_of : {X : Type 0} → (X → ℕ) → List X → ℕ
sum_of f [] = 0
sum_of f (x ∷ xs) = f x + sum_of f xs

-- the sum over the pairs of the lower side in hour k
abbrev pub total_lower : ℕ → List PairLower → ℕ
total_lower k xs = sum_of (lower_of k) xs

-- the sums over the pairs, hour by hour
abbrev pub totals : List PairLower → List ℕ
totals xs = five (λ k. total_lower k xs)

-- the sum of hour k with the MW of that hour more
abbrev pub sum_in : List ℕ → List ℕ → ℕ → ℕ
sum_in sums mw k = get_or sums k 0 + get_or mw k 0

-- each of five numbers is at most n
pub record Most (n : ℕ) (xs : List ℕ) : Type 0 where
  pub first : get_or xs 0 0 ≤ n
  pub second : get_or xs 1 0 ≤ n
  pub third : get_or xs 2 0 ≤ n
  pub fourth : get_or xs 3 0 ≤ n
  pub fifth : get_or xs 4 0 ≤ n
