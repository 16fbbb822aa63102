-- The number of an offer's reply, test by test, and what the stores of a granted one leave.
-- Assumes nothing.
use Rattle.std.specs.Prelude.{Ok}
use Prim.Native.Nat.{ℕ, ◌+◌, ◌-◌}
use lib.Dec.{ltb}
use mathlib.Core.Bool.{true, false, ◌||◌}
use mathlib.Core.Path.{◌≡◌, refl, sym, ap, ◌∙◌}
use mathlib.Core.List.{List, [], ◌∷◌}
use native.Mathlib.Omega.{arith}
use lib.ListN.{length-set, get_or, set}
use Rattle.rules.specs.Book.{Book, place}
use Rattle.rules.specs.Calls.{Call}
use Rattle.rules.specs.Windows.{latest, offer_timing}
use Rattle.rules.specs.Refusals.{order, first_of, setup_shut, field, clock, unknown, hour_unknown, timing_of, taken, wrong_hours, no_access, not_owner, cycle, full, shortage_of, refuses}
use Rattle.rules.specs.Effects.{is_timed, clock_after, directions_after, profiles_after, parties_after, offered_after, granted_after, rights_after, pairs_after, matched_after, effect}
use Rattle.rules.specs.Details.{detail, refusal}
use Rattle.rules.specs.declared.Refusal.TheVariants.{Field, Clock, Unknown}
use Rattle.rules.proofs.Bools.{or-true}
use Rattle.cells.specs.Layout.{OFFERED}
use Rattle.cells.specs.View.{InHour, book_of}
use Rattle.cells.specs.Updates.{with_offered, with_clock}
use Rattle.stores.proofs.Stores.{offered_set, clock_set}
use Rattle.cells.proofs.Views.{granted_place}
use Rattle.answers.specs.Promises.{Answers, Refused}
use Rattle.answers.specs.Capacities.{capacity_unknown, row_of, offered_model, offer_of}
use Rattle.answers.specs.declared.Capacity.{Capacity}
use Rattle.answers.specs.declared.Capacity.TheVariants.{Direction, Profile}
use Rattle.answers.proofs.Laws.{Left, pass, refuse, granted}
use Rattle.cells.specs.declared.Place.{Place}
use Rattle.offers.specs.declared.OfferCall.{OfferCall}
use Rattle.offers.specs.Work.{offer_call, Clear, Placed}

-- ---- the tests, one after the other, as the rules make them

offer_left : (b : Book) (x : Capacity) (t h mw : ℕ) → Left b (offer_of x t h mw) (3 ∷ 5 ∷ 6 ∷ 16 ∷ 8 ∷ [])
unfolding first_of order refuses setup_shut taken wrong_hours no_access not_owner cycle full shortage_of
offer_left b (Direction d) t h mw = record { number_is = refl }
offer_left b (Profile p) t h mw = record { number_is = refl }

field_is : (b : Book) (x : Capacity) (t h mw : ℕ) → refuses b (offer_of x t h mw) 3 ≡ (ltb latest t || ltb 9999 mw)
unfolding refuses field
field_is b (Direction d) t h mw = refl
field_is b (Profile p) t h mw = refl

clock_is : (b : Book) (x : Capacity) (t h mw : ℕ) → refuses b (offer_of x t h mw) 5 ≡ ltb t b.clock
unfolding refuses clock
clock_is b (Direction d) t h mw = refl
clock_is b (Profile p) t h mw = refl

unknown_is : (b : Book) (x : Capacity) (t h mw : ℕ) → refuses b (offer_of x t h mw) 6 ≡ (capacity_unknown b x || hour_unknown b h)
unfolding refuses unknown
unknown_is b (Direction d) t h mw = refl
unknown_is b (Profile p) t h mw = refl

pub timing_is : (b : Book) (x : Capacity) (t h mw : ℕ) → offer_timing b.day.hours b.day.weekday (offered_model b x) h t ≡ timing_of b (offer_of x t h mw)
unfolding timing_of
timing_is b (Direction d) t h mw = refl
timing_is b (Profile p) t h mw = refl

module _ (b : Book) (x : Capacity) (t h mw : ℕ) where
  pub field_refused : (ltb latest t || ltb 9999 mw) ≡ true → Refused b (offer_of x t h mw) Field
  unfolding refusal
  field_refused e = refuse Field (offer_left b x t h mw) (field_is b x t h mw ∙ e) refl refl

  module _ (in_field : (ltb latest t || ltb 9999 mw) ≡ false) where
    past_field : Left b (offer_of x t h mw) (5 ∷ 6 ∷ 16 ∷ 8 ∷ [])
    past_field = pass (offer_left b x t h mw) (field_is b x t h mw ∙ in_field)

    pub clock_refused : ltb t b.clock ≡ true → Refused b (offer_of x t h mw) Clock
    unfolding refusal
    clock_refused e = refuse Clock past_field (clock_is b x t h mw ∙ e) refl refl

    module _ (in_order : ltb t b.clock ≡ false) where
      past_clock : Left b (offer_of x t h mw) (6 ∷ 16 ∷ 8 ∷ [])
      past_clock = pass past_field (clock_is b x t h mw ∙ in_order)

      pub unknown_refused : (capacity_unknown b x || hour_unknown b h) ≡ true → Refused b (offer_of x t h mw) Unknown
      unfolding refusal
      unknown_refused e = refuse Unknown past_clock (unknown_is b x t h mw ∙ e) refl refl

      pub known : (capacity_unknown b x || hour_unknown b h) ≡ false → Left b (offer_of x t h mw) (16 ∷ 8 ∷ [])
      known e = pass past_clock (unknown_is b x t h mw ∙ e)

-- ---- its effect: the offer of row l in hour h is mw, and the clock is t

pub record Offers (c : Call) (t l h mw : ℕ) : Type 0 where
  pub effect_is : (b : Book) → with_clock (with_offered b (set b.offered (place l h) mw)) t ≡ effect b c
  pub detail_is : (b : Book) → mw - get_or b.granted (place l h) 0 ≡ detail b c

offers : (x : Capacity) (t h mw : ℕ) → Offers (offer_of x t h mw) t (row_of x) h mw
unfolding effect is_timed clock_after directions_after profiles_after parties_after offered_after granted_after rights_after pairs_after matched_after detail
offers (Direction d) t h mw = record { effect_is = λ b. rw (or-true b.started); detail_is = λ b. refl }
offers (Profile p) t h mw = record { effect_is = λ b. rw (or-true b.started); detail_is = λ b. refl }

pub offer_answers : {left : ℕ} (b b' : List ℕ) (call : OfferCall) (at : Place) → InHour at.row at.hour.0 → Clear (book_of b) call at → Placed b call at left b'
    → Answers b (offer_call call) (Ok left) b'
offer_answers {left} b b' call at s clear p =
    let u = p.cells.count in
    let l : ℕ = at.row in
    let h : ℕ = at.hour.0 in
    let o : Offers (offer_call call) call.time l h call.mw = rw (clear.row, clear.hour) (offers call.capacity call.time call.hour.0 call.mw) in
    granted b b' (offer_call call) left clear.clear
    (p.left_is ∙ ap (λ (x : ℕ). call.mw - x) (sym (granted_place b l h s)) ∙ o.detail_is (book_of b))
    (ap book_of p.cells_are
    ∙ clock_set (set b (OFFERED + place l h) call.mw) call.time (length-set b (OFFERED + place l h) call.mw ∙ u)
    ∙ ap (λ (x : Book). with_clock x call.time) (offered_set b (place l h) call.mw (omega arith) u)
    ∙ o.effect_is (book_of b))
