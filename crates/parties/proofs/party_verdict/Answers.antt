-- `parties::party_verdict` meets its contract: test by test, what is left to test.
-- It reads like those of the other additions: it cites what is named after this function, which a shared law can't take over.
-- Assumes nothing.
use mathlib.Core.Path.{refl, sym, ◌∙◌}
use Rattle.rules.specs.Refusals.{refuses, field, setup_shut, taken}
use Rattle.rules.specs.Details.{refusal}
use Rattle.rules.specs.declared.Refusal.TheVariants.{Taken}
use Rattle.setup.proofs.Adding.{party_left, party_full, field_refused, shut_refused, own_refused, full_refused, added}
use Rattle.parties.proofs.party_verdict.Goals as goal

pub returns-then-party_field : goal.returns-then-party_field
unfolding refuses field
returns-then-party_field c = field_refused (party_left c.args.book.now c.args.party.code c.args.party.access) (sym c.if-party_field.ensures)

pub returns-then-setup_shut : goal.returns-then-setup_shut
unfolding refuses field setup_shut
returns-then-setup_shut c = shut_refused (party_left c.args.book.now c.args.party.code c.args.party.access) (sym c.if-party_field.ensures) (sym c.if-setup_shut.ensures)

pub returns-then-code_taken : goal.returns-then-code_taken
unfolding refuses refusal field setup_shut taken
returns-then-code_taken c = own_refused (party_left c.args.book.now c.args.party.code c.args.party.access) (sym c.if-party_field.ensures) (sym c.if-setup_shut.ensures) Taken (sym c.if-code_taken.ensures) refl refl

pub returns-then-is_full : goal.returns-then-is_full
unfolding refuses field setup_shut taken
returns-then-is_full c = full_refused (party_left c.args.book.now c.args.party.code c.args.party.access) (sym c.if-party_field.ensures) (sym c.if-setup_shut.ensures) (sym c.if-code_taken.ensures) (party_full c.args.book.now c.args.party.code c.args.party.access ∙ sym c.if-is_full.ensures)

pub returns : goal.returns
unfolding refuses field setup_shut taken
returns c = added (party_left c.args.book.now c.args.party.code c.args.party.access) (sym c.if-party_field.ensures) (sym c.if-setup_shut.ensures) (sym c.if-code_taken.ensures) (party_full c.args.book.now c.args.party.code c.args.party.access ∙ sym c.if-is_full.ensures)
