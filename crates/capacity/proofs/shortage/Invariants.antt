-- `capacity::shortage` meets its contract.
-- Assumes nothing.
use Rattle.std.proofs.Common.{◌≡◌, ◌-◌, ◌≤◌, None, take}
use Rattle.capacity.proofs.Search.{FromHour, FromProfile}
use Rattle.capacity.proofs.shortage.Given as goal

abbrev pub invariant-loop-profile : goal.invariant-loop-profile
invariant-loop-profile l = (l.profile ≤ l.profiles) × (l.found ≡ None) × FromProfile l.book l.hours.direction l.hours.first.0 (take l.hours.count l.fn.mw) l.k l.profile l.compared

abbrev pub decreases-loop-profile : goal.decreases-loop-profile
decreases-loop-profile l = l.profiles - l.profile

abbrev pub invariant-hours : goal.invariant-hours
invariant-hours l = (l.found ≡ None) × FromHour l.book l.hours.direction l.hours.first.0 (take l.hours.count l.fn.mw) l.k l.compared
