-- `capacity::DirectionHour::grant` meets its contract.
-- Assumes nothing.
use Rattle.std.proofs.Common.{◌≡◌, ◌-◌, ◌≤◌}
use Rattle.cells.specs.Loops.{repeated}
use Rattle.stores.specs.Bids.{granted_profile}
use Rattle.capacity.proofs.DirectionHour.grant.Given as goal

abbrev pub invariant-loop-p : goal.invariant-loop-p
invariant-loop-p l = (l.p ≤ l.profiles)
    × (repeated (granted_profile l.self.direction l.self.hour.0 l.mw) l.profiles 0 l.initial.book ≡ repeated (granted_profile l.self.direction l.self.hour.0 l.mw) (l.profiles - l.p) l.p l.book)

abbrev pub decreases-loop-p : goal.decreases-loop-p
decreases-loop-p l = l.profiles - l.p
