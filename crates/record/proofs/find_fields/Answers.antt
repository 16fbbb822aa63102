-- `record::find_fields` meets its contract.
-- Assumes nothing.
use Rattle.std.proofs.Common.{◌≤◌, length, sym, ◌∙◌, arith}
use mathlib.Core.List.{append-nil}
use lib.Seq.{take_all}
use Rattle.rules.specs.Records.{fields_in, end_in}
use Rattle.record.proofs.Turns.{fields_done, end_done}
use Rattle.record.proofs.find_fields.Goals as goal

pub returns : goal.returns
unfolding fields_in end_in
returns c = let at = c.loop-bit in
    let all : length at.value-items ≤ at.bit = omega arith in
    let past : 15 ≤ at.bit = omega arith in
    let map = c.number_at-map.ensures in
    record {
      map_found = map;
      values_found = rw (← map) (sym (at.invariant.found ∙ rw (fields_done _ at.bit _ at.end past, append-nil, take_all at.bit at.value-items all)));
      end_found = rw (← map) (sym (at.invariant.ends ∙ rw (end_done _ at.bit c.args.bytes.now at.end past)));
    }
