-- `capacity::DirectionHour::grant` meets its contract.
-- Assumes nothing.
use Rattle.std.proofs.Common.{sym, ◌∙◌, rules}
use Rattle.stores.specs.Bids.{granted_hour}
use Rattle.cells.proofs.Turns.{repeated_next, repeated_done}
use Rattle.capacity.proofs.DirectionHour.grant.Goals as goal

pub loop-p-preserved : goal.loop-p-preserved
loop-p-preserved c = (search rules, rw c.grant_profile.ensures (c.loop-p.invariant.1 ∙ repeated_next _ _ _ _ c.loop-p-test.true))

pub returns : goal.returns
unfolding granted_hour
returns c = rw (← c.position.ensures.place_is, ← c.add.ensures) (sym (c.loop-p.invariant.1 ∙ repeated_done _ _ _ _ c.loop-p-test.false))
