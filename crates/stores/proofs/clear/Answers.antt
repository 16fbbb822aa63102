-- `stores::clear` meets its contract, with a date and without.
-- Assumes nothing.
use Rattle.std.proofs.Common.{◌≡◌, ℕ, Option, Some, None, MatchOption, unwrap_or}
use Rattle.calendar.specs.declared.Date.{Date}
use Rattle.stores.specs.Stores.{emptied}
use Rattle.stores.proofs.clear.Goals as goal

by_date : (date : Option Date) (d : Date) (hours weekday : ℕ) → d ≡ unwrap_or date (record { year = 0; month = 0; day = 0 })
    → MatchOption date (emptied d.year d.month d.day hours weekday ≡ emptied 0 0 0 hours weekday) (λ s. emptied d.year d.month d.day hours weekday ≡ emptied s.year s.month s.day hours weekday)
by_date None d hours weekday e = rw e
by_date (Some s) d hours weekday e = rw e

pub returns : goal.returns
unfolding emptied
returns c = by_date c.args.date c.unwrap_or-date.result c.args.day.hours c.args.day.weekday c.unwrap_or-date.ensures
