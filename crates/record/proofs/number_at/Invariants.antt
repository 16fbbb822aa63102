-- `record::number_at` meets its contract. The invariant: `number` is that of the bytes from `i` on.
-- Assumes nothing.
use Rattle.std.proofs.Common.{◌≡◌, ◌+◌, ◌-◌}
use Rattle.rules.specs.Records.{number_at}
use Rattle.record.proofs.number_at.Given as goal

abbrev pub invariant-loop-i : goal.invariant-loop-i
invariant-loop-i l = l.number ≡ number_at (l.width - l.i) l.bytes (l.at + l.i)
