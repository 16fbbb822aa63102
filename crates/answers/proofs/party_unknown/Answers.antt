-- `answers::party_unknown` meets its contract.
-- Assumes nothing.
use Rattle.cells.proofs.Views.{party_count}
use Rattle.answers.proofs.party_unknown.Goals as goal

pub returns : goal.returns
returns c = rw (party_count _, c.count.ensures)
