-- `record::find_fields` meets its contract. The invariant: the fields before `bit` are found, and those from it on are left to find.
-- Assumes nothing.
use Rattle.std.proofs.Common.{◌≡◌, ◌+◌, ◌*◌, ◌≤◌, ◌++◌, take, drop}
use Rattle.rules.specs.Records.{widths, fields_at, end_at}
use Rattle.record.proofs.find_fields.Given as goal

abbrev pub invariant-loop-bit : goal.invariant-loop-bit
invariant-loop-bit l =
    record {
      near : l.end ≤ 2 + 4 * l.bit;
      found : fields_at widths 0 l.map l.bytes 2 ≡ take l.bit l.value-items ++ fields_at (drop l.bit widths) l.bit l.map l.bytes l.end;
      ends : end_at widths 0 l.map 2 ≡ end_at (drop l.bit widths) l.bit l.map l.end;
    }
