-- `answers::session_in` meets its contract.
-- Assumes nothing.
use Rattle.std.proofs.Common.{◌≡◌, Bool, true, false, refl, subst, sym, ◌∙◌}
use Rattle.std.specs.Bool.{then_some}
use Rattle.cells.specs.View.{book_of}
use Rattle.answers.specs.Entries.{FindsSession}
use Rattle.answers.proofs.Entries.{session_is, unknown_is, model_is}
use Rattle.answers.proofs.session_in.Goals as goal

pub returns : goal.returns
returns c = subst (FindsSession (book_of c.args.book.now) c.args.direction c.args.session) (sym c.then_some.ensures) (go c.is_there.result refl)
  where
    go : (t : Bool) → c.is_there.result ≡ t → FindsSession (book_of c.args.book.now) c.args.direction c.args.session (then_some t c.session-known.result)
    go true e = (
      unknown_is _ _ c.args.session _ c.day.result (model_is (book_of c.args.book.now) c.args.direction c.in_ok-model.ensures.1) c.day.ensures.hours c.in_ok-model.ensures.0 (rw c.session-known.ensures at c.is_there.ensures) e,
      c.session-known.ensures ∙ session_is _ _ c.args.session _ c.day.result (model_is (book_of c.args.book.now) c.args.direction c.in_ok-model.ensures.1) c.day.ensures.hours c.day.ensures.weekday,
    )
    go false e = unknown_is _ _ c.args.session _ c.day.result (model_is (book_of c.args.book.now) c.args.direction c.in_ok-model.ensures.1) c.day.ensures.hours c.in_ok-model.ensures.0 (rw c.session-known.ensures at c.is_there.ensures) e
