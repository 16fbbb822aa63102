-- `totals::pairs_of` meets its contract.
-- Assumes nothing.
use Rattle.std.proofs.Common.{◌≤◌, length, arith}
use Rattle.rules.specs.Book.{pair_limit}
use Rattle.cells.specs.Layout.{PAIRS}
use Rattle.cells.proofs.Entries.{few_rows}
use Rattle.totals.proofs.Gathering.{none_passed, none_added, pair_added, all_passed}
use Rattle.totals.proofs.pairs_of.Goals.{then-row-right, else-row-right}
use Rattle.totals.proofs.pairs_of.Goals as goal

pub loop-row-init : goal.loop-row-init
loop-row-init c = rw c.new-list.ensures (none_passed _ _)

pub push-requires : goal.push-requires
push-requires c =
    let few = c.loop-row.invariant.few in
    let most : length c.pairs-row-items.result.now ≤ pair_limit = rw c.pairs-row-items.ensures (few_rows c.args.book.now PAIRS 13 pair_limit) in
    (omega arith, omega arith)

pub loop-row-preserved : goal.loop-row-preserved
loop-row-preserved c = elim c.if-row-right.branch [
  | then-row-right w ↦ rw w.list-is (pair_added _ _ _ _ c.loop-row-test.true c.loop-row.invariant w.if-row-right.true _ _ w.of_row.ensures w.push.ensures.items)
  | else-row-right w ↦ rw w.list-is (none_added _ _ _ _ c.loop-row-test.true c.loop-row.invariant w.if-row-right.false)
]

pub returns : goal.returns
returns c = all_passed _ _ _ _ c.pairs-row-items.ensures c.loop-row-test.false c.loop-row.auto.row-index-end c.loop-row.invariant
