-- `setup::profile_verdict` meets its contract: test by test, what is left to test.
-- It reads like those of the other additions: it cites what is named after this function, which a shared law can't take over.
-- Assumes nothing.
use mathlib.Core.Path.{refl, sym, ◌∙◌}
use Rattle.rules.specs.Refusals.{refuses, field, setup_shut, unknown}
use Rattle.rules.specs.Details.{refusal}
use Rattle.rules.specs.declared.Refusal.TheVariants.{Unknown}
use Rattle.setup.proofs.Adding.{profile_left, adds_profile_lem, field_refused, shut_refused, own_refused, full_refused, added}
use Rattle.setup.proofs.profile_verdict.Goals as goal

pub returns-then-profile_field : goal.returns-then-profile_field
unfolding refuses field
returns-then-profile_field c = field_refused (profile_left c.args.book.now c.args.map) (sym c.if-profile_field.ensures)

pub returns-then-setup_shut : goal.returns-then-setup_shut
unfolding refuses field setup_shut
returns-then-setup_shut c = shut_refused (profile_left c.args.book.now c.args.map) (sym c.if-profile_field.ensures) (sym c.if-setup_shut.ensures)

pub returns-then-profile_unknown : goal.returns-then-profile_unknown
unfolding refuses refusal field setup_shut unknown
returns-then-profile_unknown c = own_refused (profile_left c.args.book.now c.args.map) (sym c.if-profile_field.ensures) (sym c.if-setup_shut.ensures) Unknown (sym c.if-profile_unknown.ensures) refl refl

pub returns-then-is_full : goal.returns-then-is_full
unfolding refuses field setup_shut unknown
returns-then-is_full c = full_refused (profile_left c.args.book.now c.args.map) (sym c.if-profile_field.ensures) (sym c.if-setup_shut.ensures) (sym c.if-profile_unknown.ensures) ((adds_profile_lem c.args.book.now c.args.map).full_is ∙ sym c.if-is_full.ensures)

pub returns : goal.returns
unfolding refuses field setup_shut unknown
returns c = added (profile_left c.args.book.now c.args.map) (sym c.if-profile_field.ensures) (sym c.if-setup_shut.ensures) (sym c.if-profile_unknown.ensures) ((adds_profile_lem c.args.book.now c.args.map).full_is ∙ sym c.if-is_full.ensures)
