-- `capacity::grant_hours` meets its contract.
-- Assumes nothing.
use Rattle.std.proofs.Common.{◌≡◌, ◌-◌, ◌≤◌}
use Rattle.rules.specs.Book.{profile_limit}
use Rattle.cells.specs.Loops.{repeated}
use Rattle.stores.specs.Bids.{granted_hours, granted_next}
use Rattle.capacity.proofs.grant_hours.Given as goal

abbrev pub invariant-loop-k : goal.invariant-loop-k
invariant-loop-k l = ((l.k ≤ l.hours.count) × (l.profiles ≤ profile_limit)) × (granted_hours l.profiles l.hours.direction l.hours.first.0 l.hours.count l.fn.mw l.initial.book ≡ repeated (granted_next l.profiles l.hours.direction l.hours.first.0 l.fn.mw) (l.hours.count - l.k) l.k l.book)
