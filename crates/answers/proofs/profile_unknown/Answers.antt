-- `answers::profile_unknown` meets its contract.
-- Assumes nothing.
use Rattle.cells.proofs.Views.{profile_count}
use Rattle.answers.proofs.profile_unknown.Goals as goal

pub returns : goal.returns
returns c = rw (profile_count _, c.count.ensures)
