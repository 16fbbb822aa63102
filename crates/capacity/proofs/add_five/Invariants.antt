-- `capacity::add_five` meets its contract.
-- Assumes nothing.
use Rattle.std.proofs.Common.{◌≡◌, ◌-◌, ◌≤◌}
use Rattle.cells.specs.Loops.{repeated}
use Rattle.stores.specs.Bids.{added_five, added_next}
use Rattle.capacity.proofs.add_five.Given as goal

abbrev pub invariant-loop-k : goal.invariant-loop-k
invariant-loop-k l = (l.k ≤ 5) × (added_five l.fn.at l.fn.mw l.initial.book ≡ repeated (added_next l.fn.at l.fn.mw) (5 - l.k) l.k l.book)
