-- `marks::side_totals`: the totals are those of the rows passed, and below 2 ^ 32 for each.
-- Assumes nothing.
use Rattle.rules.specs.Sides.{side_number}
use Rattle.marks.proofs.Sums.{Summed}
use Rattle.marks.proofs.side_totals.Given as goal

abbrev pub invariant-loop-row : goal.invariant-loop-row
invariant-loop-row l = Summed l.right (side_number l.side) l.row-items l.row-index l.sums
