-- `offers::offer_verdict` meets its contract: each test passed leaves fewer numbers, and one that holds is the first.
-- Assumes nothing.
use Rattle.std.proofs.Common.{◌≡◌, true, ◌||◌, [], ◌∷◌, Some, sym, ◌∙◌}
use Rattle.std.proofs.lemmas.Result.{err_from_is_err_and}
use Rattle.rules.specs.Refusals.{hour_unknown, timing_of}
use Rattle.cells.specs.View.{book_of}
use Rattle.answers.specs.Capacities.{Finds, capacity_unknown}
use Rattle.answers.proofs.Laws.{Left, refused_with, window_refused, window_passed, none_left}
use Rattle.offers.specs.Work.{offer_call}
use Rattle.offers.proofs.Offers.{field_refused, clock_refused, unknown_refused, known, timing_is}
use Rattle.offers.proofs.offer_verdict.Goals.{After-window_verdict}
use Rattle.offers.proofs.offer_verdict.Goals as goal

pub returns-then-offer_field : goal.returns-then-offer_field
returns-then-offer_field c = field_refused _ c.args.call.capacity _ _ _ (sym c.if-offer_field.ensures)

pub returns-then-before_clock : goal.returns-then-before_clock
returns-then-before_clock c = clock_refused _ c.args.call.capacity _ _ _ (sym c.if-offer_field.ensures) (sym c.if-before_clock.ensures)

pub returns-in_err-place : goal.returns-in_err-place
returns-in_err-place c = let p = err_from_is_err_and c.from_residual.result c.from_residual.ensures.1 in
    let none = c.in_err-place.ensures in
    let missing : (capacity_unknown (book_of c.args.book.now) c.args.call.capacity || hour_unknown (book_of c.args.book.now) c.args.call.hour.0) ≡ true = rw none.ok_part at c.place_in.ensures in
    rw (p.1, p.2, refused_with _ _ _ none.value none.ok_part) (unknown_refused _ c.args.call.capacity _ _ _ (sym c.if-offer_field.ensures) (sym c.if-before_clock.ensures) missing)

pub returns-in_err-model : goal.returns-in_err-model
returns-in_err-model c = let p = err_from_is_err_and c.from_residual-in_err-model.result c.from_residual-in_err-model.ensures.1 in
    let none = c.in_err-model.ensures in
    let missing : capacity_unknown (book_of c.args.book.now) c.args.call.capacity ≡ true = rw none.ok_part at c.model_of.ensures in
    rw (p.1, p.2, refused_with _ _ _ none.value none.ok_part) (unknown_refused _ c.args.call.capacity _ _ _ (sym c.if-offer_field.ensures) (sym c.if-before_clock.ensures) (rw missing))

-- up to the window
there : (c : After-window_verdict) → Finds (book_of c.args.book.now) c.args.call.capacity c.args.call.hour (Some c.in_ok-place.place)
there c = rw c.in_ok-place.ensures.ok_part at c.place_in.ensures

left : (c : After-window_verdict) → Left (book_of c.args.book.now) (offer_call c.args.call) (16 ∷ 8 ∷ [])
left c = known _ c.args.call.capacity _ _ _ (sym c.if-offer_field.ensures) (sym c.if-before_clock.ensures) (there c).0

at : (c : After-window_verdict) → c.offer_timing.result ≡ timing_of (book_of c.args.book.now) (offer_call c.args.call)
unfolding book_of
at c = let found = rw c.in_ok-model.ensures.ok_part at c.model_of.ensures in
    rw (c.day-day.ensures.hours, c.day-day.ensures.weekday, found) at c.offer_timing.ensures ∙ timing_is (book_of c.args.book.now) c.args.call.capacity c.args.call.time c.args.call.hour.0 c.args.call.mw

pub returns-in_err-window_verdict : goal.returns-in_err-window_verdict
returns-in_err-window_verdict c = let p = err_from_is_err_and c.from_residual-in_err-window_verdict.result c.from_residual-in_err-window_verdict.ensures.1 in
    let w = (goal.at.returns-in_err-window_verdict c).After-window_verdict in
    rw (p.1, p.2) (window_refused (left w) (at w) c.in_err-window_verdict.ensures)

pub returns : goal.returns
returns c = let w = (goal.at.returns c).After-window_verdict in
    record { clear = none_left (window_passed (left w) (at w) c.in_ok-window_verdict.ensures); row = (there w).1.0; hour = (there w).1.1 }
