-- `answers::direction_unknown` meets its contract.
-- Assumes nothing.
use Rattle.cells.proofs.Views.{direction_count}
use Rattle.answers.proofs.direction_unknown.Goals as goal

pub returns : goal.returns
returns c = rw (direction_count _, c.count.ensures)
