-- `totals::total_lower`: the sums are those of the pairs passed, and below 2 ^ 32 for each.
-- Assumes nothing.
use Rattle.std.proofs.Common.{◌≡◌, ◌*◌, ◌≤◌, length, take}
use Rattle.totals.specs.Total.{Most, totals}
use Rattle.totals.proofs.total_lower.Given as goal

abbrev pub invariant-loop-pair : goal.invariant-loop-pair
invariant-loop-pair l = (l.pair-index ≤ length l.list) × (l.sums ≡ totals (take l.pair-index l.list)) × Most (l.pair-index * 4294967295) l.sums
