-- `nomination_tests::named_in` meets its contract.
-- Assumes nothing.
use Rattle.std.proofs.Common.{sym, ◌∙◌}
use Rattle.cells.specs.View.{book_of}
use Rattle.answers.proofs.Entries.{session_is, model_is}
use Rattle.nomination_tests.proofs.named_in.Goals as goal

pub returns : goal.returns
returns c = let day = c.day.ensures in
    record {
      known = rw (c.in_ok-access.ensures.0, sym c.party_unknown.ensures ∙ c.if-party_unknown.false, c.in_ok-right.ensures.0);
      access = c.in_ok-access.ensures.1;
      right_is = c.in_ok-right.ensures.1;
      direction_is = c.direction_of-direction.ensures;
      session_is = c.session-session.ensures ∙ session_is _ _ c.in_ok-right.right.session _ c.day.result (model_is (book_of c.args.book.now) c.in_ok-right.right.direction c.direction_of-direction.ensures) day.hours day.weekday;
    }
