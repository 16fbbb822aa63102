-- `fields::Field::size` meets its contract.
-- Assumes nothing.
use mathlib.Core.Path.{refl}
use Rattle.rules.specs.Basics.{any_above}
use Rattle.rules.specs.Records.{widths}
use Rattle.rules.proofs.Above.{at_most}
use Rattle.fields.proofs.Field.size.Goals as goal

pub returns-then-stands : goal.returns-then-stands
unfolding widths any_above
returns-then-stands c = record { taken = rw c.if-stands.true; few = at_most 4 widths refl c.args.self.bit }
