-- Calls that add an entry: the numbers that can refuse them, and the promise of one that is granted, whose row more is the rules' entry more.
-- Assumes nothing.
use Rattle.std.specs.Prelude.{Ok}
use Prim.Native.Nat.{ℕ, ◌<◌}
use mathlib.Core.Path.{◌≡◌, refl, sym, ap, ◌∙◌}
use mathlib.Core.Bool.{Bool, true, false, ◌||◌}
use mathlib.Core.List.{List, [], ◌∷◌, ◌++◌}
use lib.Dec.{leb, eqb}
use lib.ListN.{length}
use borrow.Author.Tests.{eq-eqb, leb-false}
use Rattle.rules.specs.Basics.{has}
use Rattle.rules.specs.Book.{Book, direction_limit, party_limit, profile_limit}
use Rattle.rules.specs.Calls.{Call, AddDirection, AddProfile, AddParty}
use Rattle.rules.specs.Refusals.{order, first_of, refuses, number, clock, unknown, taken, timing_of, wrong_hours, no_access, not_owner, cycle, full, shortage_of}
use Rattle.rules.specs.Effects.{is_timed, clock_after, directions_after, profiles_after, parties_after, offered_after, granted_after, rights_after, pairs_after, matched_after, effect}
use Rattle.rules.specs.Details.{detail, refusal}
use Rattle.rules.specs.Said.{said_refusal}
use Rattle.rules.specs.declared.Refusal.{Refusal}
use Rattle.rules.specs.declared.Refusal.TheVariants.{Field, SetupShut, Full}
use Rattle.rules.proofs.Decisions.{is_granted, fails}
use Rattle.cells.specs.Layout.{CELLS, DIRECTIONS, PROFILES, PARTIES}
use Rattle.cells.specs.View.{Cells, book_of, counted}
use Rattle.stores.specs.Stores.{with_row}
use Rattle.cells.specs.Updates.{with_directions, with_profiles, with_parties}
use Rattle.stores.proofs.Tables.{direction_more, profile_more, party_more}
use Rattle.cells.proofs.Views.{direction_count, profile_count, party_count}
use Rattle.answers.specs.Promises.{Answers, Refused}
use Rattle.answers.proofs.Laws.{Left, pass, refuse, none_left, granted}

-- ---- the numbers that can apply

pub direction_left : (b : List ℕ) (o i m : ℕ) → Left (book_of b) (AddDirection o i m) (3 ∷ 4 ∷ 7 ∷ 13 ∷ [])
unfolding first_of order refuses clock unknown taken timing_of wrong_hours no_access not_owner cycle shortage_of
direction_left b o i m = record { number_is = refl }

pub profile_left : (b : List ℕ) (map : ℕ) → Left (book_of b) (AddProfile map) (3 ∷ 4 ∷ 6 ∷ 13 ∷ [])
unfolding first_of order refuses clock unknown taken timing_of wrong_hours no_access not_owner cycle shortage_of
profile_left b map = record { number_is = refl }

pub party_left : (b code : List ℕ) (access : ℕ) → Left (book_of b) (AddParty code access) (3 ∷ 4 ∷ 7 ∷ 13 ∷ [])
unfolding first_of order refuses clock unknown taken timing_of wrong_hours no_access not_owner cycle shortage_of
party_left b code access = record { number_is = refl }

-- ---- the tests, one after the other: the field, the end of set-up, one of the call's own, a full table

module _ {b : Book} {c : Call} {n : ℕ} (l : Left b c (3 ∷ 4 ∷ n ∷ 13 ∷ [])) where
  pub field_refused : refuses b c 3 ≡ true → Refused b c Field
  unfolding refusal
  field_refused e = refuse Field l e refl refl

  module _ (in_field : refuses b c 3 ≡ false) where
    pub shut_refused : refuses b c 4 ≡ true → Refused b c SetupShut
    unfolding refusal
    shut_refused e = refuse SetupShut (pass l in_field) e refl refl

    module _ (in_setup : refuses b c 4 ≡ false) where
      past_setup : Left b c (n ∷ 13 ∷ [])
      past_setup = pass (pass l in_field) in_setup

      pub own_refused : (r : Refusal) → refuses b c n ≡ true → eqb n 0 ≡ false → said_refusal r ≡ refusal b c n → Refused b c r
      own_refused r = refuse r past_setup

      module _ (own : refuses b c n ≡ false) where
        pub full_refused : refuses b c 13 ≡ true → Refused b c Full
        unfolding refusal
        full_refused e = refuse Full (pass past_setup own) e refl refl

        pub added : refuses b c 13 ≡ false → number b c ≡ 0
        added e = none_left (pass (pass past_setup own) e)

-- ---- from a verdict to the promise

-- what a call says of the table that it adds a row to
pub record Adds (b : List ℕ) (c : Call) (table limit : ℕ) (row : List ℕ) : Type 0 where
  pub full_is : refuses (book_of b) c 13 ≡ leb limit (counted b table limit)
  pub detail_is : detail (book_of b) c ≡ counted b table limit
  pub effect_is : (n : ℕ) → n < limit → length b ≡ CELLS → counted b table limit ≡ n → book_of (with_row table n row b) ≡ effect (book_of b) c

module _ {b : List ℕ} {c : Call} {table limit : ℕ} {row : List ℕ} (a : Adds b c table limit row) (clear : number (book_of b) c ≡ 0) where
  pub room : counted b table limit < limit
  unfolding order has
  room = leb-false limit (counted b table limit) (sym a.full_is ∙ fails (is_granted (book_of b) c (eq-eqb _ _ clear)) 13 tt)

  -- the row after the last one is stored
  pub answers_number : {n : ℕ} {b' : List ℕ} → Cells b → n ≡ counted b table limit → b' ≡ with_row table n row b → Answers b c (Ok n) b'
  answers_number {n} {b'} cells number_is cells_are =
      granted b b' c n clear (number_is ∙ sym a.detail_is) (ap book_of cells_are ∙ a.effect_is n (rw number_is room) cells.count (sym number_is))

-- ---- each table

or_false : (t : Bool) → (t || false) ≡ t
or_false true = refl
or_false false = refl

record Effects (b : Book) : Type 0 where
  direction : (o i m : ℕ) → with_directions b (b.directions ++ (record { out = o; into = i; model = m } ∷ [])) ≡ effect b (AddDirection o i m)
  profile : (map : ℕ) → with_profiles b (b.profiles ++ (map ∷ [])) ≡ effect b (AddProfile map)
  party : (code : List ℕ) (access : ℕ) → with_parties b (b.parties ++ (record { code = code; access = access } ∷ [])) ≡ effect b (AddParty code access)

effects : (b : Book) → Effects b
unfolding effect is_timed clock_after directions_after profiles_after parties_after offered_after granted_after rights_after pairs_after matched_after
effects b =
    let same = or_false b.started in
    record { direction = λ o i m. rw same; profile = λ map. rw same; party = λ code access. rw same }

pub adds_direction_lem : (b : List ℕ) (o i m : ℕ) → Adds b (AddDirection o i m) DIRECTIONS direction_limit (o ∷ i ∷ m ∷ [])
unfolding refuses full detail
adds_direction_lem b o i m =
    record {
      full_is = rw (direction_count b);
      detail_is = direction_count b;
      effect_is = λ n l u e. direction_more b n o i m l u e ∙ (effects (book_of b)).direction o i m;
    }

pub adds_profile_lem : (b : List ℕ) (map : ℕ) → Adds b (AddProfile map) PROFILES profile_limit (map ∷ [])
unfolding refuses full detail
adds_profile_lem b map =
    record {
      full_is = rw (profile_count b);
      detail_is = profile_count b;
      effect_is = λ n l u e. profile_more b n map l u e ∙ (effects (book_of b)).profile map;
    }

pub adds_party : (b code row : List ℕ) (access : ℕ) → length code ≡ 16 → row ≡ code ++ (access ∷ []) → Adds b (AddParty code access) PARTIES party_limit row
unfolding refuses full detail
adds_party b code row access size is =
    record {
      full_is = rw (party_count b);
      detail_is = party_count b;
      effect_is = λ n l u e. rw is (party_more b n code access l u size e ∙ (effects (book_of b)).party code access);
    }

-- the table of parties is full
pub party_full : (b code : List ℕ) (access : ℕ) → refuses (book_of b) (AddParty code access) 13 ≡ leb party_limit (counted b PARTIES party_limit)
unfolding refuses full
party_full b code access = rw (party_count b)
