-- From the tests of a bid to its verdict: each test passed leaves fewer numbers, and one that holds is the first.
-- Assumes nothing.
use Rattle.std.specs.Prelude.{Option, Some, None, Ok, Err}
use Prim.Native.Nat.{ℕ}
use mathlib.Core.Path.{◌≡◌, refl, sym, ap, ◌∙◌}
use mathlib.Core.Bool.{true, false, ◌||◌, not}
use mathlib.Core.List.{List, [], ◌∷◌}
use native.Mathlib.Numerals.{one-add}
use lib.Dec.{ltb}
use lib.ListN.{take, drop}
use Rattle.rules.specs.Basics.{bit, any_above}
use Rattle.rules.specs.Windows.{latest, bid_timing}
use Rattle.rules.specs.Book.{Book, model_of, Direction as RulesDirection}
use Rattle.rules.specs.Said.{said_refusal}
use Rattle.rules.specs.Bids.{Shortage, is_short, shortage}
use Rattle.rules.specs.Details.{short_hour_of, short_capacity_of, refusal}
use Rattle.rules.specs.Refusals.{order, first_of, setup_shut, taken, not_owner, cycle, refuses, field, clock, unknown, timing_of, wrong_hours, hours_lacking, no_access, full, shortage_of}
use Rattle.rules.specs.declared.Hour.{Hour}
use Rattle.rules.specs.declared.CapacityOf.{CapacityOf}
use Rattle.rules.specs.declared.CapacityOf.TheVariants.{Direction, Profile}
use Rattle.rules.specs.declared.Refusal.{Refusal}
use Rattle.rules.specs.declared.Refusal.TheVariants.{Field, Clock, Unknown, Hours, Access, Full, Short}
use Rattle.rules.specs.declared.Timing.{Timing}
use Rattle.rules.proofs.Bools.{or_left}
use Rattle.rules.proofs.Searches.{shortage_in_front}
use Rattle.cells.specs.View.{book_of}
use Rattle.answers.specs.Promises.{Refused, window_verdict}
use Rattle.answers.proofs.Laws.{Left, pass, refuse, window_refused, window_passed, none_left}
use Rattle.capacity.specs.Search.{as_shortage}
use Rattle.rights.specs.Work.{entry_in}
use Rattle.rights.proofs.Rights.{full_refused, full_passed, refused_full}
use Rattle.bids.specs.declared.BidCall.{BidCall}
use Rattle.bids.specs.declared.Named.{Named}
use Rattle.bids.specs.Work.{bid_of, right_asked, Names, Cleared}

-- the numbers that can apply to a bid
all_left : (b : Book) (call : BidCall) → Left b (bid_of call) (3 ∷ 5 ∷ 6 ∷ 16 ∷ 8 ∷ 9 ∷ 10 ∷ 13 ∷ 15 ∷ [])
unfolding first_of order refuses setup_shut taken not_owner cycle
all_left b call = record { number_is = refl }

-- a bid within its window, and what it names: the numbers after 8 are left
pub record InWindow (b : List ℕ) (call : BidCall) (n : Named) : Type 0 where
  pub names : Names (book_of b) call n
  pub left : Left (book_of b) (bid_of call) (9 ∷ 10 ∷ 13 ∷ 15 ∷ [])

-- ---- up to the window

module _ (b : List ℕ) (call : BidCall) where
  pub out_of_range : (ltb latest call.time || any_above 9999 call.mw) ≡ true → Refused (book_of b) (bid_of call) Field
  unfolding refuses refusal field
  out_of_range f = refuse Field (all_left (book_of b) call) f refl refl

  module _ (f : (ltb latest call.time || any_above 9999 call.mw) ≡ false) where
    pub before_clock : ltb call.time (book_of b).clock ≡ true → Refused (book_of b) (bid_of call) Clock
    unfolding refuses refusal field clock
    before_clock c = refuse Clock (pass (all_left (book_of b) call) f) c refl refl

    module _ (c : ltb call.time (book_of b).clock ≡ false) where
      pub not_there : unknown (book_of b) (bid_of call) ≡ true → Refused (book_of b) (bid_of call) Unknown
      unfolding refuses refusal field clock
      not_there u = refuse Unknown (pass (pass (all_left (book_of b) call) f) c) u refl refl

      module _ (n : Named) (k : Names (book_of b) call n)
          {t : Timing} (at : t ≡ bid_timing n.session.day.hours n.session.day.weekday n.session.model n.session.session.0 call.time) where
        to_window : Left (book_of b) (bid_of call) (16 ∷ 8 ∷ 9 ∷ 10 ∷ 13 ∷ 15 ∷ [])
        unfolding refuses field clock
        to_window = pass (pass (pass (all_left (book_of b) call) f) c) k.known

        timing_is : t ≡ timing_of (book_of b) (bid_of call)
        unfolding timing_of
        timing_is = rw k.session_is at at

        pub outside_window : {r : Refusal} → Err r ≡ window_verdict t → Refused (book_of b) (bid_of call) r
        outside_window e = window_refused to_window timing_is e

        pub past_window : {x : Unit {0}} → Ok x ≡ window_verdict t → InWindow b call n
        past_window e = record { names = k; left = window_passed to_window timing_is e }

-- ---- after the window

short_said : (h : Hour) (l : CapacityOf) (s : Shortage) → as_shortage (Some (h, l)) ≡ s
    → (is_short s ≡ true) × (said_refusal (Short h l) ≡ record { number = 15; first = short_hour_of s; second = short_capacity_of s })
short_said h Direction s e = rw (← e) (refl, refl)
short_said h (Profile p) s e = rw (← e) (refl, rw (one-add p))

module _ {b : List ℕ} {call : BidCall} {n : Named} (w : InWindow b call n) where
  hours_tested : (any_above 0 (drop n.hours.count call.mw) || not (any_above 0 call.mw)) ≡ wrong_hours (book_of b) (bid_of call)
  unfolding wrong_hours hours_lacking
  hours_tested = rw w.names.hours_are.count_is

  access_tested : not (bit n.access n.direction.out || bit n.access n.direction.into) ≡ no_access (book_of b) (bid_of call)
  unfolding no_access
  access_tested = rw (w.names.access_is, ← w.names.direction_is)

  model_is : n.direction.model ≡ model_of (book_of b) call.direction
  model_is = ap (λ (x : RulesDirection). x.model) w.names.direction_is

  pub wrong : (any_above 0 (drop n.hours.count call.mw) || not (any_above 0 call.mw)) ≡ true → Refused (book_of b) (bid_of call) Hours
  unfolding refuses refusal
  wrong h = refuse Hours w.left (sym hours_tested ∙ h) refl refl

  module _ (h : (any_above 0 (drop n.hours.count call.mw) || not (any_above 0 call.mw)) ≡ false) where
    past_hours : Left (book_of b) (bid_of call) (10 ∷ 13 ∷ 15 ∷ [])
    unfolding refuses
    past_hours = pass w.left (sym hours_tested ∙ h)

    pub barred : not (bit n.access n.direction.out || bit n.access n.direction.into) ≡ true → Refused (book_of b) (bid_of call) Access
    unfolding refuses refusal
    barred a = refuse Access past_hours (sym access_tested ∙ a) refl refl

    module _ (a : not (bit n.access n.direction.out || bit n.access n.direction.into) ≡ false) where
      past_access : Left (book_of b) (bid_of call) (13 ∷ 15 ∷ [])
      unfolding refuses
      past_access = pass past_hours (sym access_tested ∙ a)

      pub no_room : {r : Refusal} → Err r ≡ entry_in b (right_asked call n.direction.model) → Refused (book_of b) (bid_of call) r
      unfolding refuses refusal full
      no_room e = rw (refused_full b (right_asked call n.direction.model) e)
          (refuse Full past_access (rw model_is at (full_refused b (right_asked call n.direction.model) e)) refl refl)

      module _ {entry : Option ℕ} (e : Ok entry ≡ entry_in b (right_asked call n.direction.model)) where
        to_shortage : Left (book_of b) (bid_of call) (15 ∷ [])
        unfolding refuses full
        to_shortage = pass past_access (rw model_is at (full_passed b (right_asked call n.direction.model) e))

        module _ (r : Option (Hour × CapacityOf)) (s : as_shortage r ≡ shortage (book_of b) n.hours.direction n.hours.first.0 (take n.hours.count call.mw)) where
          shortage_is : as_shortage r ≡ shortage_of (book_of b) (bid_of call)
          unfolding shortage_of
          shortage_is =
              s
              ∙ shortage_in_front (book_of b) n.hours.direction n.hours.first.0 n.hours.count call.mw (or_left _ (not (any_above 0 call.mw)) h)
              ∙ rw (w.names.hours_are.direction_is, w.names.hours_are.first_is)

          pub short : {hour : Hour} {of : CapacityOf} → r ≡ Some (hour, of) → Refused (book_of b) (bid_of call) (Short hour of)
          unfolding refuses refusal
          short {hour} {of} q = let said = short_said hour of _ (rw q at shortage_is) in refuse (Short hour of) to_shortage said.0 refl said.1

          pub nothing_against : r ≡ None → Cleared b call (record { hours = n.hours; right = right_asked call n.direction.model; entry = entry })
          unfolding refuses
          nothing_against q =
              record {
                clear = none_left (pass to_shortage (ap is_short (sym (rw q at shortage_is))));
                hours_are = w.names.hours_are;
                right_is = ap (right_asked call) model_is;
                enters = record { entry_is = e };
              }
