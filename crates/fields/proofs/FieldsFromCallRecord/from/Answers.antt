-- `Fields::from` meets its contract. The ranges are what owning the call gives.
-- Assumes nothing.
use Rattle.std.proofs.Common.{ℕ, get_or, refl, arith, rules}
use mir.Val.{Fits}
use mir.Syntax.{w16}
use Rattle.rules.specs.Records.{widths, fields_of}
use Rattle.fields.proofs.Widths.{fit_at}
use Rattle.fields.proofs.FieldsFromCallRecord.from.Goals as goal

pub returns : goal.returns
unfolding widths fields_of
returns c = let mw : (i : ℕ) → Fits w16 (get_or c.args.call.mw i 0) = λ i. search rules in (
  refl,
  record { hours = search rules; fields = fit_at widths (fields_of c.args.call) (omega (arith, mw 0, mw 1, mw 2, mw 3, mw 4)) },
)
