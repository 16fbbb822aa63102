-- `record::put_fields` meets its contract. The invariant: what is left to store are the fields from `bit` on.
-- Assumes nothing.
use Rattle.std.proofs.Common.{◌≡◌, ◌+◌, ◌≤◌, length, get_or, drop}
use Rattle.std.proofs.lemmas.List.Edits.{sets}
use Rattle.rules.specs.Records.{widths, kind_at, body}
use Rattle.record.proofs.put_fields.Given as goal

abbrev pub invariant-loop-bit : goal.invariant-loop-bit
invariant-loop-bit l =
    let values = l.fn.fields.0 in
    let kind = kind_at (get_or values 0 0) in
    record {
      room : l.at + length (body kind l.bit (drop l.bit widths) (drop l.bit values)) ≤ length l.buffer;
      stored : sets l.initial.buffer 2 (body kind 0 widths values) ≡ sets l.buffer l.at (body kind l.bit (drop l.bit widths) (drop l.bit values));
    }
