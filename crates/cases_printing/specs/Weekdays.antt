-- 01, Day and clock: weekdays by their numbers.
-- Assumes nothing.
use Rattle.std.specs.Prelude.{ℕ, ◌≡◌, false, Result, MatchResult}
use Rattle.rules.specs.Basics.{between}
use Rattle.cases_printing.specs.declared.Weekday.{Weekday}
use Rattle.cases_printing.specs.declared.Weekday.TheVariants.{Monday, Tuesday, Wednesday, Thursday, Friday, Saturday, Sunday}
use Rattle.cases_printing.specs.declared.NoWeekday.{NoWeekday}

-- from Monday 1 to Sunday 7
abbrev pub weekday_number : Weekday → ℕ
weekday_number Monday = 1
weekday_number Tuesday = 2
weekday_number Wednesday = 3
weekday_number Thursday = 4
weekday_number Friday = 5
weekday_number Saturday = 6
weekday_number Sunday = 7

-- a weekday by its number: any number below 1 or above 7 is given back
abbrev pub ReadsWeekday : ℕ → Result Weekday NoWeekday → Type 0
ReadsWeekday n r = MatchResult r (λ weekday. weekday_number weekday ≡ n) (λ e. (e.0 ≡ n) × (between 1 7 n ≡ false))
