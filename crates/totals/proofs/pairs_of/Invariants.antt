-- `totals::pairs_of`: the list has the pairs of the rows passed.
-- Assumes nothing.
use Rattle.totals.proofs.Gathering.{Passed}
use Rattle.totals.proofs.pairs_of.Given as goal

abbrev pub invariant-loop-row : goal.invariant-loop-row
invariant-loop-row l = Passed l.right l.row-items l.row-index l.list.items
