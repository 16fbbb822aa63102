-- `calendar::last_sundays` meets its contract: the table has both Sundays of the year.
-- Assumes nothing.
use native.Mathlib.Omega.{arith}
use Rattle.calendar.proofs.Table.{each_year}
use Rattle.calendar.proofs.last_sundays.Goals as goal

pub returns : goal.returns
returns c = each_year _ c.sundays-table.ensures c.args.year (omega arith) (omega arith)
