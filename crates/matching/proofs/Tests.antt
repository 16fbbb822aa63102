-- The tests of a matching, one after the other, as the rules make them.
-- Assumes nothing.
use Prim.Native.Nat.{ℕ, ◌≤◌, ◌<◌}
use mathlib.Core.Path.{◌≡◌, refl}
use mathlib.Core.Bool.{Bool, true, false, cond, ◌||◌}
use mathlib.Core.List.{List, [], ◌∷◌}
use native.Mathlib.Omega.{arith}
use lib.Dec.{leb, ltb, eqb}
use borrow.Author.Tests.{leb-true, ltb-true, not-false}
use Rattle.rules.specs.Windows.{latest}
use Rattle.rules.specs.Sessions.{session_there}
use Rattle.rules.specs.Book.{Book, model_of, direction_limit}
use Rattle.rules.specs.Calls.{Call, Match}
use Rattle.rules.specs.Refusals.{order, first_of, field, clock, unknown, setup_shut, taken, wrong_hours, no_access, not_owner, full, shortage_of, direction_unknown, session_unknown, cycle, is_matched, refuses, number}
use Rattle.rules.specs.Details.{refusal}
use Rattle.rules.specs.declared.Refusal.TheVariants.{Field, Clock, Unknown, Cycle}
use Rattle.rules.proofs.Bools.{or_left, or_right, and_left, and_right}
use Rattle.cells.specs.View.{day_hours_in, book_of}
use Rattle.cells.proofs.Views.{known_direction, hours_within}
use Rattle.answers.specs.Promises.{Refused}
use Rattle.answers.proofs.Laws.{Left, pass, refuse, none_left}

-- ---- before the window

module _ (b : Book) (t d s : ℕ) where
  abbrev call : Call
  call = Match t d s

  -- the numbers that can apply to a matching
  left : Left b call (3 ∷ 5 ∷ 6 ∷ 16 ∷ 8 ∷ 12 ∷ [])
  unfolding first_of order refuses setup_shut taken wrong_hours no_access not_owner full shortage_of
  left = record { number_is = refl }

  pub field_refused : ltb latest t ≡ true → Refused b call Field
  unfolding refuses refusal field
  field_refused e = refuse Field left e refl refl

  module _ (in_field : ltb latest t ≡ false) where
    past_field : Left b call (5 ∷ 6 ∷ 16 ∷ 8 ∷ 12 ∷ [])
    unfolding refuses field
    past_field = pass left in_field

    pub clock_refused : ltb t b.clock ≡ true → Refused b call Clock
    unfolding refuses refusal clock
    clock_refused e = refuse Clock past_field e refl refl

    module _ (in_order : ltb t b.clock ≡ false) where
      past_clock : Left b call (6 ∷ 16 ∷ 8 ∷ 12 ∷ [])
      unfolding refuses clock
      past_clock = pass past_field in_order

      pub unknown_refused : (direction_unknown b d || session_unknown b d s) ≡ true → Refused b call Unknown
      unfolding refuses refusal unknown
      unknown_refused e = refuse Unknown past_clock e refl refl

      pub known : (direction_unknown b d || session_unknown b d s) ≡ false → Left b call (16 ∷ 8 ∷ 12 ∷ [])
      unfolding refuses unknown
      known e = pass past_clock e

-- ---- after the window

module _ {b : Book} {t d s : ℕ} (l : Left b (Match t d s) (12 ∷ [])) where
  pub matched_refused : is_matched b.matched d s ≡ true → Refused b (Match t d s) Cycle
  unfolding refuses refusal cycle
  matched_refused e = refuse Cycle l e refl refl

  pub granted : is_matched b.matched d s ≡ false → number b (Match t d s) ≡ 0
  unfolding refuses cycle
  granted e = none_left (pass l e)

-- ---- the direction and the session

-- a session that is there is one of 25
session_within : (n model s : ℕ) → n ≤ 25 → session_there n model s ≡ true → (1 ≤ s) × (s ≤ 25)
unfolding session_there
session_within n model s h e =
    let l : 0 < s = ltb-true 0 s (and_left (ltb 0 s) _ e) in
    (omega arith, go (eqb model 1) (and_right (ltb 0 s) _ e))
  where
    go : (t : Bool) → leb s (cond t n 6) ≡ true → s ≤ 25
    go true p = let u = leb-true s n p in omega arith
    go false p = let u = leb-true s 6 p in omega arith

-- direction and session are there
pub record KnownMatch (d s : ℕ) : Type 0 where
  pub direction : d < direction_limit
  pub session : (1 ≤ s) × (s ≤ 25)

pub known_match : (b : List ℕ) (d s : ℕ) → (direction_unknown (book_of b) d || session_unknown (book_of b) d s) ≡ false → KnownMatch d s
unfolding book_of
known_match b d s e =
    let l = known_direction b d (or_left (direction_unknown (book_of b) d) _ e) in
    record {
      direction = omega arith;
      session = session_within (day_hours_in b) (model_of (book_of b) d) s (hours_within b).1 (not-false (session_there (day_hours_in b) (model_of (book_of b) d) s) (or_right (direction_unknown (book_of b) d) _ e));
    }
