-- `setup::direction_verdict` meets its contract: test by test, what is left to test.
-- It reads like those of the other additions: it cites what is named after this function, which a shared law can't take over.
-- Assumes nothing.
use mathlib.Core.Path.{refl, sym, ◌∙◌}
use Rattle.rules.specs.Refusals.{refuses, field, setup_shut, taken}
use Rattle.rules.specs.Details.{refusal}
use Rattle.rules.specs.declared.Refusal.TheVariants.{Taken}
use Rattle.setup.proofs.Adding.{direction_left, adds_direction_lem, field_refused, shut_refused, own_refused, full_refused, added}
use Rattle.setup.proofs.direction_verdict.Goals as goal

pub returns-then-direction_field : goal.returns-then-direction_field
unfolding refuses field
returns-then-direction_field c = field_refused (direction_left c.args.book.now c.args.direction.out c.args.direction.into c.args.direction.model) (sym c.if-direction_field.ensures)

pub returns-then-setup_shut : goal.returns-then-setup_shut
unfolding refuses field setup_shut
returns-then-setup_shut c = shut_refused (direction_left c.args.book.now c.args.direction.out c.args.direction.into c.args.direction.model) (sym c.if-direction_field.ensures) (sym c.if-setup_shut.ensures)

pub returns-then-direction_taken : goal.returns-then-direction_taken
unfolding refuses refusal field setup_shut taken
returns-then-direction_taken c = own_refused (direction_left c.args.book.now c.args.direction.out c.args.direction.into c.args.direction.model) (sym c.if-direction_field.ensures) (sym c.if-setup_shut.ensures) Taken (sym c.if-direction_taken.ensures) refl refl

pub returns-then-is_full : goal.returns-then-is_full
unfolding refuses field setup_shut taken
returns-then-is_full c = full_refused (direction_left c.args.book.now c.args.direction.out c.args.direction.into c.args.direction.model) (sym c.if-direction_field.ensures) (sym c.if-setup_shut.ensures) (sym c.if-direction_taken.ensures) ((adds_direction_lem c.args.book.now c.args.direction.out c.args.direction.into c.args.direction.model).full_is ∙ sym c.if-is_full.ensures)

pub returns : goal.returns
unfolding refuses field setup_shut taken
returns c = added (direction_left c.args.book.now c.args.direction.out c.args.direction.into c.args.direction.model) (sym c.if-direction_field.ensures) (sym c.if-setup_shut.ensures) (sym c.if-direction_taken.ensures) ((adds_direction_lem c.args.book.now c.args.direction.out c.args.direction.into c.args.direction.model).full_is ∙ sym c.if-is_full.ensures)
