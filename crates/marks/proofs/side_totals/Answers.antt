-- `marks::side_totals` meets its contract.
-- Assumes nothing.
use Rattle.std.proofs.Common.{◌≤◌, length, arith}
use Rattle.rules.specs.Book.{pair_limit}
use Rattle.cells.specs.Layout.{PAIRS}
use Rattle.cells.proofs.Entries.{few_rows}
use Rattle.totals.proofs.Sums.{most_fits}
use Rattle.marks.proofs.Sums.{all_summed, none_summed, none_added, share_added}
use Rattle.marks.proofs.side_totals.Goals.{then-row-right, else-row-right}
use Rattle.marks.proofs.side_totals.Goals as goal

pub loop-row-init : goal.loop-row-init
loop-row-init c = none_summed _ _ _

pub plus-next-requires : goal.plus-next-requires
plus-next-requires c =
    let few : length c.pairs-row-items.result.now ≤ pair_limit = rw c.pairs-row-items.ensures (few_rows c.args.book.now PAIRS 13 pair_limit) in
    most_fits _ _ _ c.loop-row.invariant.most (omega arith)

pub loop-row-preserved : goal.loop-row-preserved
loop-row-preserved c = elim c.if-row-right.branch [
  | then-row-right w ↦ rw w.sums-is (share_added _ _ _ _ _ c.loop-row-test.true c.loop-row.invariant w.if-row-right.true _ _ w.side_mw.ensures w.plus-next.ensures)
  | else-row-right w ↦ rw w.sums-is (none_added _ _ _ _ _ c.loop-row-test.true c.loop-row.invariant w.if-row-right.false)
]

pub returns : goal.returns
returns c = all_summed _ _ _ _ _ c.pairs-row-items.ensures c.loop-row-test.false c.loop-row.invariant
