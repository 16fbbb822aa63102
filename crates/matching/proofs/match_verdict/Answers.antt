-- `matching::match_verdict` meets its contract: each test passed leaves fewer numbers, and one that holds is the first.
-- Assumes nothing.
use Rattle.std.proofs.Common.{◌≡◌, true, ◌||◌, [], ◌∷◌, Some, sym, ap, ◌∙◌}
use Rattle.std.proofs.lemmas.Result.{err_from_is_err_and}
use Rattle.rules.specs.Refusals.{direction_unknown, session_unknown, timing_of}
use Rattle.answers.specs.Entries.{FindsSession}
use Rattle.rules.specs.Windows.{matching_timing}
use Rattle.cells.specs.View.{book_of}
use Rattle.answers.proofs.Laws.{Left, refused_with, window_refused, window_passed}
use Rattle.matching.specs.Work.{match_of}
use Rattle.matching.proofs.Tests.{field_refused, clock_refused, unknown_refused, known, matched_refused, granted}
use Rattle.matching.proofs.match_verdict.Goals.{After-window_verdict}
use Rattle.matching.proofs.match_verdict.Goals as goal

pub returns-then-match_field : goal.returns-then-match_field
returns-then-match_field c = field_refused _ _ _ _ (sym c.if-match_field.ensures)

pub returns-then-before_clock : goal.returns-then-before_clock
returns-then-before_clock c = clock_refused _ _ _ _ (sym c.if-match_field.ensures) (sym c.if-before_clock.ensures)

pub returns-in_err-known : goal.returns-in_err-known
returns-in_err-known c = let p = err_from_is_err_and c.from_residual.result c.from_residual.ensures.1 in
    let none = c.in_err-known.ensures in
    let missing : (direction_unknown (book_of c.args.book.now) c.args.call.direction || session_unknown (book_of c.args.book.now) c.args.call.direction c.args.call.session.0) ≡ true = rw none.ok_part at c.session_in.ensures in
    rw (p.1, p.2, refused_with _ _ _ none.value none.ok_part) (unknown_refused _ _ _ _ (sym c.if-match_field.ensures) (sym c.if-before_clock.ensures) missing)

-- the session that was found
there : (c : After-window_verdict) → FindsSession (book_of c.args.book.now) c.args.call.direction c.args.call.session (Some c.in_ok-known.known)
there c = rw c.in_ok-known.ensures.ok_part at c.session_in.ensures

-- up to the window
left : (c : After-window_verdict) → Left (book_of c.args.book.now) (match_of c.args.call) (16 ∷ 8 ∷ 12 ∷ [])
left c = known _ _ _ _ (sym c.if-match_field.ensures) (sym c.if-before_clock.ensures) (there c).0

at : (c : After-window_verdict) → c.matching_timing.result ≡ timing_of (book_of c.args.book.now) (match_of c.args.call)
unfolding timing_of
at c = c.matching_timing.ensures ∙ ap (λ known. matching_timing known.day.hours known.day.weekday known.model known.session.0 c.args.call.time) (there c).1

pub returns-in_err-window_verdict : goal.returns-in_err-window_verdict
returns-in_err-window_verdict c = let p = err_from_is_err_and c.from_residual-in_err-window_verdict.result c.from_residual-in_err-window_verdict.ensures.1 in
    let w = (goal.at.returns-in_err-window_verdict c).After-window_verdict in
    rw (p.1, p.2) (window_refused (left w) (at w) c.in_err-window_verdict.ensures)

pub returns-then-is_matched : goal.returns-then-is_matched
returns-then-is_matched c = let w = (goal.at.returns-then-is_matched c).After-window_verdict in
    matched_refused (window_passed (left w) (at w) c.in_ok-window_verdict.ensures) (sym c.if-is_matched.ensures)

pub returns : goal.returns
returns c = let w = (goal.at.returns c).After-window_verdict in
    granted (window_passed (left w) (at w) c.in_ok-window_verdict.ensures) (sym c.if-is_matched.ensures)
