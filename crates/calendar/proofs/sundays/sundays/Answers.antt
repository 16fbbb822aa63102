-- `calendar::sundays::sundays` meets its contract: the one test over all 800 entries computes to true.
-- Assumes nothing.
use mathlib.Core.Path.{refl}
use Rattle.rules.specs.Basics.{same}
use Rattle.rules.specs.Calendar.{leap, days_in, days_of_months}
use Rattle.calendar.proofs.Table.{sunday_after, sundays_after, passed}
use Rattle.calendar.proofs.sundays.sundays.Goals as goal

pub returns : goal.returns
unfolding same sundays_after sunday_after days_of_months days_in leap
returns c = passed _ refl
