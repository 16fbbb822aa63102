-- `reads::left_read` meets its contract.
-- Assumes nothing.
use Rattle.reads.proofs.left_read.Goals as goal

pub returns : goal.returns
returns c = rw (c.left_at.ensures, c.shortfall_at.ensures)
