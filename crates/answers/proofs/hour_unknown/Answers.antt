-- `answers::hour_unknown` meets its contract.
-- Assumes nothing.
use borrow.Author.Tests.{lt-ltb, le-ltb}
use Rattle.cells.specs.View.{book_of}
use Rattle.rules.specs.Refusals.{hour_unknown}
use Rattle.answers.proofs.hour_unknown.Goals as goal

pub returns-then-number-lt1 : goal.returns-then-number-lt1
unfolding book_of hour_unknown
returns-then-number-lt1 c = rw (lt-ltb _ 1 c.if-number-lt1.true)

pub returns-else-number-lt1 : goal.returns-else-number-lt1
unfolding book_of hour_unknown
returns-else-number-lt1 c = rw (le-ltb _ 1 c.if-number-lt1.false, c.hours.ensures)
