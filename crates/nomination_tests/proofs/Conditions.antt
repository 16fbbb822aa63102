-- From the tests of a nomination to the conditions of the rules.
-- Assumes nothing.
use Rattle.std.proofs.Common.{◌≡◌, ◌<◌, Bool, true, false, not, cond, ◌||◌, eqb, ltb, [], ◌∷◌, drop, refl, sym, ap, ◌∙◌, Ok}
use borrow.Author.Tests.{lt-ltb}
use Rattle.rules.specs.Basics.{bit, any_above}
use Rattle.rules.specs.Sessions.{hours_in}
use Rattle.rules.specs.Windows.{latest, nomination_timing}
use Rattle.rules.specs.Book.{Book, Direction, direction, right}
use Rattle.rules.specs.Refusals.{order, first_of, field, setup_shut, clock, unknown, taken, timing_of, hours_lacking, wrong_hours, no_access, not_owner, cycle, shortage_of, refuses}
use Rattle.rules.specs.Sides.{side_number}
use Rattle.rules.specs.declared.Side.{Side}
use Rattle.rules.specs.declared.Side.TheVariants.{Out, In}
use Rattle.rules.specs.declared.Timing.{Timing}
use Rattle.rules.proofs.Bools.{or-true}
use mathlib.Core.Bool.{or-false}
use Rattle.tables.specs.Rows.{direction_of}
use Rattle.answers.specs.Promises.{window_verdict}
use Rattle.answers.proofs.Laws.{Left, pass, window_passed}
use Rattle.nomination_tests.specs.declared.NominationCall.{NominationCall}
use Rattle.nomination_tests.specs.declared.Named.{Named}
use Rattle.nomination_tests.specs.Named.{nominate_of, unnamed, IsNamed}

-- the numbers that can apply to a nomination
pub nomination_left : (b : Book) (c : NominationCall) → Left b (nominate_of c) (3 ∷ 5 ∷ 6 ∷ 16 ∷ 8 ∷ 9 ∷ 10 ∷ 11 ∷ 13 ∷ [])
unfolding first_of order refuses setup_shut taken cycle shortage_of
nomination_left b c = record { number_is = refl }

-- ---- 3, 5 and 6

module _ (b : Book) (c : NominationCall) where
  -- a number that is no side
  pub no_side : 1 < c.side → refuses b (nominate_of c) 3 ≡ true
  unfolding refuses field
  no_side l = rw (lt-ltb 1 c.side l, or-true (ltb latest c.time)) refl

  pub clock_is : {t : Bool} → ltb c.time b.clock ≡ t → refuses b (nominate_of c) 5 ≡ t
  unfolding refuses clock
  clock_is e = e

  pub unknown_is : {t : Bool} → unnamed b c ≡ t → refuses b (nominate_of c) 6 ≡ t
  unfolding refuses unknown
  unknown_is e = e

  module _ (s : Side) (side : side_number s ≡ c.side) where
    side_there : ltb 1 c.side ≡ false
    side_there = rw (← side) (go s)
      where
        go : (x : Side) → ltb 1 (side_number x) ≡ false
        go Out = refl
        go In = refl

    pub field_is : {t : Bool} → (ltb latest c.time || any_above 9999 c.mw) ≡ t → refuses b (nominate_of c) 3 ≡ t
    unfolding refuses field
    field_is e = rw (side_there, or-false (ltb latest c.time)) e

    -- the tests before the window are passed
    pub timely : (ltb latest c.time || any_above 9999 c.mw) ≡ false → ltb c.time b.clock ≡ false → Left b (nominate_of c) (6 ∷ 16 ∷ 8 ∷ 9 ∷ 10 ∷ 11 ∷ 13 ∷ [])
    timely f k = pass (pass (nomination_left b c) (field_is f)) (clock_is k)

-- ---- 16 and 8, 9, 10 and 11

module _ (b : Book) (c : NominationCall) (x : Named) (n : IsNamed b c x) where
  pub timing_is : {t : Timing} → t ≡ nomination_timing x.session.day.hours x.session.day.weekday x.session.model x.session.session.0 c.time → t ≡ timing_of b (nominate_of c)
  unfolding timing_of
  timing_is e = e ∙ rw (n.session_is, n.right_is) refl

  pub hours_are : {t : Bool} → any_above 0 (drop (hours_in x.session.day.hours x.session.model x.session.session.0) c.mw) ≡ t → refuses b (nominate_of c) 9 ≡ t
  unfolding refuses wrong_hours hours_lacking
  hours_are e = sym (rw (n.session_is, n.right_is) refl) ∙ e

  pub access_is : (s : Side) → side_number s ≡ c.side → {t : Bool} → not (bit x.access (cond (eqb (side_number s) 0) x.direction.out x.direction.into)) ≡ t → refuses b (nominate_of c) 10 ≡ t
  unfolding refuses no_access
  access_is s side e =
      let there : direction_of x.direction ≡ direction b.directions (right b.rights c.right).direction = n.direction_is ∙ rw n.right_is refl in
      rw (← n.access, ← side) (sym (ap (λ (y : Direction). not (bit x.access (cond (eqb (side_number s) 0) y.out y.into))) there) ∙ e)

  pub owner_is : {t : Bool} → not (eqb x.right.holder c.sender || eqb x.right.holder c.other) ≡ t → refuses b (nominate_of c) 11 ≡ t
  unfolding refuses not_owner
  owner_is e = rw n.right_is at e

  -- what the tests after the window leave
  module _ (s : Side) (side : side_number s ≡ c.side) where
    -- the window is passed
    pub within : {t : Timing} {v : Unit {0}} → (ltb latest c.time || any_above 9999 c.mw) ≡ false → ltb c.time b.clock ≡ false
        → t ≡ nomination_timing x.session.day.hours x.session.day.weekday x.session.model x.session.session.0 c.time → Ok v ≡ window_verdict t → Left b (nominate_of c) (9 ∷ 10 ∷ 11 ∷ 13 ∷ [])
    within f k e w = window_passed (pass (timely b c s side f k) (unknown_is b c n.known)) (timing_is e) w

    -- the tests after it are
    pub owned : Left b (nominate_of c) (9 ∷ 10 ∷ 11 ∷ 13 ∷ []) → any_above 0 (drop (hours_in x.session.day.hours x.session.model x.session.session.0) c.mw) ≡ false
        → not (bit x.access (cond (eqb (side_number s) 0) x.direction.out x.direction.into)) ≡ false → not (eqb x.right.holder c.sender || eqb x.right.holder c.other) ≡ false
        → Left b (nominate_of c) (13 ∷ [])
    owned l h a o = pass (pass (pass l (hours_are h)) (access_is s side a)) (owner_is o)
