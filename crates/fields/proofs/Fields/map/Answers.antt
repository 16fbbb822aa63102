-- `fields::Fields::map` meets its contract: before bit 0 the map has no bit, and past the last nothing stands.
-- Assumes nothing.
use Rattle.std.proofs.Common.{◌≤◌, length, arith, rules}
use Rattle.rules.specs.Records.{kind_at}
use Rattle.fields.proofs.Turns.{map_next, map_fits, map_done}
use Rattle.fields.proofs.Fields.map.Goals as goal

pub loop-bit-init : goal.loop-bit-init
loop-bit-init c = omega arith

pub overflow_add-map : goal.overflow_add-map
overflow_add-map c = let small = map_fits _ c.args.self.0 (search rules) c.loop-bit.bit _ c.loop-bit-test.true c.is_written.ensures c.loop-bit.invariant in search rules

pub loop-bit-preserved : goal.loop-bit-preserved
loop-bit-preserved c = map_next _ c.args.self.0 (search rules) c.loop-bit.bit _ c.loop-bit-test.true c.is_written.ensures c.loop-bit.invariant

pub returns : goal.returns
returns c = let n : length c.args.self.0 ≤ c.loop-bit.bit = omega arith in
    let all = rw (map_done (kind_at c.args.kind) c.args.self.0 c.loop-bit.bit n) at c.loop-bit.invariant in
    omega arith
