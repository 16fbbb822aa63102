-- `capacity::add_five` meets its contract.
-- Assumes nothing.
use Rattle.std.proofs.Common.{◌≡◌, ◌≤◌, ◌<◌, length, sym, refl, ◌∙◌, rules, arith}
use Rattle.stores.specs.Bids.{added_five, added_next}
use Rattle.cells.proofs.Turns.{repeated_next, repeated_done}
use Rattle.capacity.proofs.add_five.Goals as goal

pub loop-k-init : goal.loop-k-init
unfolding added_five
loop-k-init c = (search rules, refl)

pub loop-k-preserved : goal.loop-k-preserved
unfolding added_next
loop-k-preserved c =
    let size : length c.args.mw ≡ 5 = search rules in
    let turn : c.loop-k.k < 5 = omega arith in
    (omega arith, rw c.add.ensures (c.loop-k.invariant.1 ∙ repeated_next _ _ _ _ turn))

pub returns : goal.returns
returns c =
    let size : length c.args.mw ≡ 5 = search rules in
    let past : 5 ≤ c.loop-k.k = omega arith in
    sym (c.loop-k.invariant.1 ∙ repeated_done _ _ _ _ past)
