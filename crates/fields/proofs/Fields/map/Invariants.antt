-- `fields::Fields::map` meets its contract. The invariant: `map` has the bits before `bit`.
-- Assumes nothing.
use Rattle.std.proofs.Common.{◌≡◌, ◌+◌, ◌*◌, ◌^◌, drop}
use Rattle.rules.specs.Basics.{map_of}
use Rattle.rules.specs.Records.{kind_at, standing, map_for}
use Rattle.fields.proofs.Fields.map.Given as goal

abbrev pub invariant-loop-bit : goal.invariant-loop-bit
invariant-loop-bit l = map_for l.kind l.fn.self.0 ≡ l.map + 2 ^ l.bit * map_of (standing (kind_at l.kind) l.bit (drop l.bit l.fn.self.0))
