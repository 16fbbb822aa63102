-- What a date that is there has.
-- Assumes nothing.
use Rattle.std.proofs.Common.{◌≡◌, ℕ, ◌≤◌, true, arith}
use Rattle.std.proofs.lemmas.Bool.Decides.{nat_tests}
use Rattle.rules.specs.Basics.{between}
use Rattle.rules.specs.Calendar.{days_in, is_date}

-- the numbers of a date that is there
pub record DateThere (y m d : ℕ) : Type 0 where
  pub year : (2000 ≤ y) × (y ≤ 2399)
  pub month : (1 ≤ m) × (m ≤ 12)
  pub day : (1 ≤ d) × (d ≤ days_in y m)

pub there : (y m d : ℕ) → is_date y m d ≡ true → DateThere y m d
unfolding is_date between
there y m d e = grind (arith, nat_tests)
