-- `fields::Fields::any_foreign` meets its contract. The invariant: what is left is the search from `bit` on.
-- Assumes nothing.
use Rattle.std.proofs.Common.{◌≡◌, drop}
use Rattle.rules.specs.Records.{kind_at, foreign}
use Rattle.fields.proofs.Fields.any_foreign.Given as goal

abbrev pub invariant-loop-bit : goal.invariant-loop-bit
invariant-loop-bit l = let values = l.fn.self.0 in foreign (kind_at l.fn.kind) 0 values ≡ foreign (kind_at l.fn.kind) l.bit (drop l.bit values)
