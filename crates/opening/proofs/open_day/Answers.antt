-- `opening::open_day` meets its contract.
-- Assumes nothing.
use Rattle.opening.proofs.Opening.{opens_refused, opens_granted}
use Rattle.opening.proofs.open_day.Goals as goal

pub returns-in_default : goal.returns-in_default
returns-in_default c = rw c.clear.ensures (opens_refused _ _ _ c.in_default.ensures)

pub returns : goal.returns
returns c = rw c.clear-2.ensures (opens_granted _ _ _ _ c.in-Some.ensures)
