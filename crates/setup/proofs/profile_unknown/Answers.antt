-- `setup::profile_unknown` meets its contract.
-- Assumes nothing.
use Rattle.cells.proofs.Views.{direction_count}
use Rattle.setup.proofs.Bits.{past_bits}
use Rattle.setup.proofs.profile_unknown.Goals as goal

pub returns : goal.returns
returns c = rw (direction_count _, ← c.count-count.ensures) (past_bits c.args.map c.count-count.result)
