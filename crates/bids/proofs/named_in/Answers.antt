-- `bids::named_in` meets its contract.
-- Assumes nothing.
use mathlib.Core.Path.{refl, ◌∙◌}
use mathlib.Core.Bool.{false≢true}
use Rattle.std.proofs.lemmas.Bool.{false_from_ne_true}
use Rattle.cells.specs.View.{book_of}
use Rattle.answers.proofs.Entries.{session_is, model_is}
use Rattle.bids.proofs.Names.{party_missing, direction_missing, session_decides, hours_inside, hours_of}
use Rattle.bids.proofs.named_in.Goals as goal

pub returns-in_err-access : goal.returns-in_err-access
returns-in_err-access c = rw c.from_residual.ensures (party_missing _ _ c.in_err-access.ensures)

pub returns-in_err-direction : goal.returns-in_err-direction
returns-in_err-direction c = rw c.from_residual-in_err-direction.ensures (direction_missing _ _ c.in_ok-access.ensures.0 c.in_err-direction.ensures)

pub returns-in_err-first : goal.returns-in_err-first
returns-in_err-first c =
    let found = c.in_ok-direction.ensures in
    let session = (c.session-session.ensures ∙ session_is _ _ c.args.call.session _ c.day.result (model_is (book_of c.args.book.now) c.args.call.direction found.1) c.day.ensures.hours c.day.ensures.weekday) in
    rw c.from_residual-in_err-first.ensures (session_decides _ _ _ session found.0 c.in_ok-access.ensures.0 (false_from_ne_true _ (λ t. false≢true (c.in_err-first.ensures.there.1 t))))

pub invariant_of-hours : goal.invariant_of-hours
invariant_of-hours c =
    let found = c.in_ok-direction.ensures in
    let session = (c.session-session.ensures ∙ session_is _ _ c.args.call.session _ c.day.result (model_is (book_of c.args.book.now) c.args.call.direction found.1) c.day.ensures.hours c.day.ensures.weekday) in
    record { inside = hours_inside _ c.args.call _ session found.0 (c.in_ok-first.ensures.there.0 refl) c.in_ok-first.ensures.hour c.hours.ensures }

pub returns : goal.returns
returns c =
    let found = c.in_ok-direction.ensures in
    let session = (c.session-session.ensures ∙ session_is _ _ c.args.call.session _ c.day.result (model_is (book_of c.args.book.now) c.args.call.direction found.1) c.day.ensures.hours c.day.ensures.weekday) in
    let there = c.in_ok-first.ensures.there.0 refl in
    record {
      known = session_decides _ _ _ session found.0 c.in_ok-access.ensures.0 there;
      access_is = c.in_ok-access.ensures.1;
      direction_is = found.1;
      session_is = session;
      hours_are = hours_of _ _ _ session found.0 there c.in_ok-first.ensures.hour c.hours.ensures _ refl refl refl;
    }
