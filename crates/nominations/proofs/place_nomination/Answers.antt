-- `nominations::place_nomination` meets its contract.
-- Assumes nothing.
use Rattle.nominations.proofs.Placing.{placed}
use borrow.Author.Rules.{rules}
use Rattle.nominations.proofs.place_nomination.Goals as goal

pub returns : goal.returns
returns c = placed _ c.args.call c.args.entry c.requires (search rules) _ _ _ _ (rw c.key_of.ensures at c.take_pair-pair.ensures) c.write_side.ensures c.set_clock.ensures _ c.marks.ensures
