-- `nominations::nomination_verdict` meets its contract: each test passed leaves fewer numbers, and one that holds is the first.
-- Assumes nothing.
use Rattle.std.proofs.Common.{[], ◌∷◌, refl, ap, subst, ◌∙◌}
use Rattle.std.proofs.lemmas.Result.{err_from_is_err_and}
use Rattle.rules.specs.Details.{refusal}
use Rattle.rules.specs.declared.Refusal.TheVariants.{Field, Clock, Unknown, Hours, Access, Owner, Full}
use Rattle.cells.specs.View.{book_of}
use Rattle.answers.specs.declared.RightRead.{RightRead}
use Rattle.answers.proofs.Laws.{Left, pass, refuse, refused_with, window_refused, none_left}
use Rattle.pairs.specs.Work.{entry_in}
use Rattle.pairs.proofs.Pairs.{full_refused, full_passed}
use Rattle.nomination_tests.specs.Named.{nominate_of, FindsNamed, IsNamed}
use Rattle.nomination_tests.proofs.Conditions.{nomination_left, no_side, clock_is, unknown_is, field_is, timely, timing_is, hours_are, access_is, owner_is, within, owned}
use Rattle.nominations.specs.Work.{key_of}
use Rattle.nominations.proofs.Placing.{full_is}
use Rattle.nominations.proofs.nomination_verdict.Goals.{In_ok-named, In_ok-window_verdict}
use Rattle.nominations.proofs.nomination_verdict.Goals as goal

pub returns-in_err-side : goal.returns-in_err-side
unfolding refusal
returns-in_err-side c = let none = c.in_err-side.ensures in let p = err_from_is_err_and c.from_residual.result c.from_residual.ensures.1 in
    rw (p.1, p.2, none.0) (refuse Field (nomination_left (book_of c.args.book.now) c.args.call) (no_side (book_of c.args.book.now) c.args.call none.1) refl refl)

pub returns-then-out_of_range : goal.returns-then-out_of_range
unfolding refusal
returns-then-out_of_range c = refuse Field (nomination_left (book_of c.args.book.now) c.args.call) (field_is (book_of c.args.book.now) c.args.call _ c.in_ok-side.ensures (cc)) refl refl

pub returns-then-before_clock : goal.returns-then-before_clock
unfolding refusal
returns-then-before_clock c = refuse Clock (pass (nomination_left (book_of c.args.book.now) c.args.call) (field_is (book_of c.args.book.now) c.args.call _ c.in_ok-side.ensures (cc))) (clock_is (book_of c.args.book.now) c.args.call (cc)) refl refl

pub returns-in_err-named : goal.returns-in_err-named
unfolding refusal
returns-in_err-named c =
    let p = err_from_is_err_and c.from_residual-in_err-named.result c.from_residual-in_err-named.ensures.1 in
    let none = c.in_err-named.ensures in
    let missing = subst (FindsNamed (book_of c.args.book.now) c.args.call) none.ok_part c.named_in.ensures in
    rw (p.1, p.2, refused_with _ _ _ none.value none.ok_part) (refuse Unknown (timely (book_of c.args.book.now) c.args.call _ c.in_ok-side.ensures (cc) (cc)) (unknown_is (book_of c.args.book.now) c.args.call missing) refl refl)

-- what the nomination names
names : (c : In_ok-named) → IsNamed (book_of c.args.book.now) c.args.call c.in_ok-named.named
names c = subst (FindsNamed (book_of c.args.book.now) c.args.call) c.in_ok-named.ensures.ok_part c.named_in.ensures

pub returns-in_err-window_verdict : goal.returns-in_err-window_verdict
returns-in_err-window_verdict c =
    let p = err_from_is_err_and c.from_residual-in_err-window_verdict.result c.from_residual-in_err-window_verdict.ensures.1 in
    let n = names (goal.at.returns-in_err-window_verdict c).In_ok-named in
    rw (p.1, p.2) (window_refused (pass (timely (book_of c.args.book.now) c.args.call _ c.in_ok-side.ensures (cc) (cc)) (unknown_is (book_of c.args.book.now) c.args.call n.known)) (timing_is (book_of c.args.book.now) c.args.call _ n c.nomination_timing.ensures) c.in_err-window_verdict.ensures)

-- past the window
named : (c : In_ok-window_verdict) → IsNamed (book_of c.args.book.now) c.args.call c.in_ok-named.named
named c = names (goal.at.In_ok-window_verdict c).In_ok-named

left : (c : In_ok-window_verdict) → Left (book_of c.args.book.now) (nominate_of c.args.call) (9 ∷ 10 ∷ 11 ∷ 13 ∷ [])
left c = within (book_of c.args.book.now) c.args.call _ (named c) _ c.in_ok-side.ensures (cc) (cc) c.nomination_timing.ensures c.in_ok-window_verdict.ensures

pub returns-then-lacking_hours : goal.returns-then-lacking_hours
unfolding refusal
returns-then-lacking_hours c = let w = (goal.at.returns-then-lacking_hours c).In_ok-window_verdict in
    refuse Hours (left w) (hours_are (book_of c.args.book.now) c.args.call _ (named w) (cc)) refl refl

pub returns-then-no_access : goal.returns-then-no_access
unfolding refusal
returns-then-no_access c = let w = (goal.at.returns-then-no_access c).In_ok-window_verdict in
    refuse Access (pass (left w) (hours_are (book_of c.args.book.now) c.args.call _ (named w) (cc))) (access_is (book_of c.args.book.now) c.args.call _ (named w) _ c.in_ok-side.ensures (cc)) refl refl

pub returns-then-not_owner : goal.returns-then-not_owner
unfolding refusal
returns-then-not_owner c = let w = (goal.at.returns-then-not_owner c).In_ok-window_verdict in
    refuse Owner (pass (pass (left w) (hours_are (book_of c.args.book.now) c.args.call _ (named w) (cc))) (access_is (book_of c.args.book.now) c.args.call _ (named w) _ c.in_ok-side.ensures (cc))) (owner_is (book_of c.args.book.now) c.args.call _ (named w) (cc)) refl refl

pub returns-in_err-pair : goal.returns-in_err-pair
unfolding refusal
returns-in_err-pair c =
    let w = (goal.at.returns-in_err-pair c).In_ok-window_verdict in
    let p = err_from_is_err_and c.from_residual-in_err-pair.result c.from_residual-in_err-pair.ensures.1 in
    let full = full_refused c.args.book.now (key_of c.args.call c.in_ok-side.side) (c.in_err-pair.ensures ∙ ap (entry_in c.args.book.now) c.key_of.ensures) in
    rw (p.1, p.2, full.1) (refuse Full (owned (book_of c.args.book.now) c.args.call _ (named w) _ c.in_ok-side.ensures (left w) (cc) (cc) (cc)) (full_is c.args.book.now c.args.call _ c.in_ok-side.ensures full.0) refl refl)

pub returns : goal.returns
returns c =
    let w = (goal.at.returns c).In_ok-window_verdict in
    let entry = c.in_ok-pair.ensures ∙ ap (entry_in c.args.book.now) c.key_of.ensures in
    record {
      clear = none_left (pass (owned (book_of c.args.book.now) c.args.call _ (named w) _ c.in_ok-side.ensures (left w) (cc) (cc) (cc)) (full_is c.args.book.now c.args.call _ c.in_ok-side.ensures (full_passed c.args.book.now (key_of c.args.call c.in_ok-side.side) entry).0));
      side_is = c.in_ok-side.ensures;
      held_is = ap (λ (x : RightRead). x.mw) (named w).right_is;
      enters = record { entry_is = entry };
    }
