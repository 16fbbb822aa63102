-- `record::record_length` meets its contract. The invariant: what is left to count are the fields from `bit` on.
-- Assumes nothing.
use Rattle.std.proofs.Common.{◌≡◌, ◌+◌, ◌*◌, ◌≤◌, length, get_or, drop}
use Rattle.rules.specs.Records.{widths, kind_at, body}
use Rattle.record.proofs.record_length.Given as goal

abbrev pub invariant-loop-bit : goal.invariant-loop-bit
invariant-loop-bit l =
    let values = l.fn.fields.0 in
    let kind = kind_at (get_or values 0 0) in
    record {
      few : l.length ≤ 2 + 4 * l.bit;
      counted : 2 + length (body kind 0 widths values) ≡ l.length + length (body kind l.bit (drop l.bit widths) (drop l.bit values));
    }
