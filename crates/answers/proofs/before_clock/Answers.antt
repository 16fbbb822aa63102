-- `answers::before_clock` meets its contract.
-- Assumes nothing.
use Rattle.cells.specs.View.{book_of}
use Rattle.answers.proofs.before_clock.Goals as goal

pub returns : goal.returns
unfolding book_of
returns c = rw c.clock.ensures
