-- The pairs of one right, and the lower of their two sides, in the cells.
-- Assumes nothing.
use Rattle.std.specs.Prelude.{ℕ, ◌≤◌, ◌≡◌, List, length}
use Rattle.rules.specs.Basics.{five}
use Rattle.rules.specs.Book.{pair_limit}
use Rattle.rules.specs.Nominations.{lower, lower_total}
use Rattle.cells.specs.View.{pair_read, book_of}
use Rattle.totals.specs.declared.PairLower.{PairLower}
use Rattle.totals.specs.Total.{totals}

-- 01, Nominations and matching: the lower side, in hour k, of the pair with the cells of a row
abbrev pub lower_in : List ℕ → ℕ → ℕ
lower_in row k = lower k (pair_read row)

-- 01, Nominations and matching: the sum of the lower sides over the pairs of right r in hour k
abbrev pub total_in : List ℕ → ℕ → ℕ → ℕ
total_in b r k = lower_total r k (book_of b).pairs

-- the list has the pairs of right r: in each hour the lower sides have the sum of the rules
pub record Gathered (b : List ℕ) (r : ℕ) (list : List PairLower) : Type 0 where
  pub few : length list ≤ pair_limit
  pub sums : totals list ≡ five (total_in b r)
