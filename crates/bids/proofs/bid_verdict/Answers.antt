-- `bids::bid_verdict` meets its contract.
-- Assumes nothing.
use mathlib.Core.Path.{subst, ◌∙◌}
use Rattle.std.proofs.lemmas.Result.{err_from_is_err_and}
use Rattle.answers.proofs.Laws.{refused_with}
use Rattle.bids.specs.Work.{FindsNamed, Names}
use Rattle.bids.proofs.Verdicts.{InWindow, out_of_range, before_clock, not_there, outside_window, past_window, wrong, barred, no_room, short, nothing_against}
use Rattle.cells.specs.View.{book_of}
use Rattle.bids.proofs.bid_verdict.Goals.{After-window_verdict, In_ok-window_verdict}
use Rattle.bids.proofs.bid_verdict.Goals as goal

pub returns-then-out_of_range : goal.returns-then-out_of_range
returns-then-out_of_range c = out_of_range _ c.args.call (cc)

pub returns-then-before_clock : goal.returns-then-before_clock
returns-then-before_clock c = before_clock _ c.args.call (cc) (cc)

pub returns-in_err-named : goal.returns-in_err-named
returns-in_err-named c =
    let p = err_from_is_err_and c.from_residual.result c.from_residual.ensures.1 in
    let none = c.in_err-named.ensures in
    rw (p.1, p.2, refused_with _ _ _ none.value none.ok_part) (not_there _ c.args.call (cc) (cc) (subst (FindsNamed (book_of c.args.book.now) c.args.call) none.ok_part c.named_in.ensures))

-- what the bid names
names : (c : After-window_verdict) → Names (book_of c.args.book.now) c.args.call c.in_ok-named.named
names c = subst (FindsNamed (book_of c.args.book.now) c.args.call) c.in_ok-named.ensures.ok_part c.named_in.ensures

pub returns-in_err-window_verdict : goal.returns-in_err-window_verdict
returns-in_err-window_verdict c =
    let p = err_from_is_err_and c.from_residual-in_err-window_verdict.result c.from_residual-in_err-window_verdict.ensures.1 in
    rw (p.1, p.2) (outside_window _ c.args.call (cc) (cc) _ (names (goal.at.returns-in_err-window_verdict c).After-window_verdict) c.bid_timing.ensures c.in_err-window_verdict.ensures)

-- past the window
within : (c : In_ok-window_verdict) → InWindow c.args.book.now c.args.call c.in_ok-named.named
within c = past_window _ c.args.call (cc) (cc) _ (names (goal.at.In_ok-window_verdict c).After-window_verdict) c.bid_timing.ensures c.in_ok-window_verdict.ensures

pub returns-then-wrong_hours : goal.returns-then-wrong_hours
returns-then-wrong_hours c = wrong (within (goal.at.returns-then-wrong_hours c).In_ok-window_verdict) (cc)

pub returns-then-no_access : goal.returns-then-no_access
returns-then-no_access c = barred (within (goal.at.returns-then-no_access c).In_ok-window_verdict) (cc) (cc)

pub returns-in_err-entry : goal.returns-in_err-entry
returns-in_err-entry c =
    let p = err_from_is_err_and c.from_residual-in_err-entry.result c.from_residual-in_err-entry.ensures.1 in
    rw (p.1, p.2) (no_room (within (goal.at.returns-in_err-entry c).In_ok-window_verdict) (cc) (cc) (c.in_err-entry.ensures ∙ rw c.right_asked-right.ensures))

pub returns-in-Some : goal.returns-in-Some
returns-in-Some c =
    short (within (goal.at.returns-in-Some c).In_ok-window_verdict) (cc) (cc) (c.in_ok-entry.ensures ∙ rw c.right_asked-right.ensures) _ c.shortage.ensures.found c.in-Some.is

pub returns : goal.returns
returns c =
    rw c.right_asked-right.ensures (nothing_against (within (goal.at.returns c).In_ok-window_verdict) (cc) (cc) (c.in_ok-entry.ensures ∙ rw c.right_asked-right.ensures) _ c.shortage.ensures.found c.in_default.is)
