-- `capacity::grant_hours` meets its contract.
-- Assumes nothing.
use Rattle.std.proofs.Common.{◌≤◌, ◌<◌, sym, ◌∙◌, rules, arith}
use Rattle.stores.specs.Bids.{granted_hours, granted_next}
use Rattle.cells.proofs.Turns.{repeated_start, repeated_next, repeated_done}
use Rattle.capacity.proofs.Asked.{in_session, past_session, asked_is}
use Rattle.capacity.proofs.grant_hours.Goals as goal

pub loop-k-init : goal.loop-k-init
unfolding granted_hours
loop-k-init c = (search rules, repeated_start _ _ _)

pub loop-k-preserved : goal.loop-k-preserved
unfolding granted_next
loop-k-preserved c =
    let turn : c.loop-k.k < c.args.hours.count = in_session c.args.mw _ (search rules) c.args.hours.inside.few c.loop-k-test.true in
    ((omega arith, search rules), rw c.grant.ensures (c.loop-k.invariant.1 ∙ repeated_next _ _ _ _ turn ∙ rw (asked_is c.args.mw c.args.hours.count (search rules) c.args.hours.inside.few c.loop-k-test.true)))

pub returns : goal.returns
returns c =
    let past : c.args.hours.count ≤ c.loop-k.k = past_session c.args.mw _ (search rules) c.args.hours.inside.few c.loop-k-test.false in
    rw (← c.profile_count-profiles.ensures.count) (sym (c.loop-k.invariant.1 ∙ repeated_done _ _ _ _ past))
