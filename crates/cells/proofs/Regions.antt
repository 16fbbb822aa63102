-- A change of cells within one run of cells changes just the part of the book that is read from it.
-- Assumes nothing.
use Rattle.std.proofs.Common.{ℕ, ◌+◌, ◌*◌, ◌≤◌, ◌<◌, min, Bool, true, false, ◌||◌, if◌then◌else◌, nat_le, List, ◌≡◌, ◌∙◌, refl}
use borrow.Author.Tests.{leb-true}
use native.Mathlib.Nat.{le_trans, lt_of_lt_of_le}
use native.Mathlib.Omega.{arith}
use lib.Dec.{lit≤, lit<}
use Rattle.rules.specs.Book.{Book, direction_limit, pair_limit, party_limit, profile_limit, right_limit}
use Rattle.cells.specs.Updates.{with_directions, with_profiles, with_parties, with_offered, with_granted, with_rights, with_pairs, with_matched}
use Rattle.cells.specs.Loops.{rows}
use Rattle.cells.specs.Layout.{CELLS, YEAR, MONTH, DAY, HOURS, WEEKDAY, CLOCK, STARTED, DIRECTIONS, PROFILES, PARTIES, OFFERED, GRANTED, MATCHED, RIGHTS, PAIRS}
use Rattle.cells.specs.View.{cell, cell_from, part, counted, date_in, day_hours_in, weekday_in, started_in, clock_in, direction_at, directions_in, profiles_in, party_at, parties_in, offered_in, granted_in, matched_in, right_at, rights_in, pair_at, pairs_in, book_of}
use Rattle.cells.proofs.Rows.{rows_same}

-- the cells from lo on and before hi are the same
abbrev pub Agree : ℕ → ℕ → List ℕ → List ℕ → Type 0
Agree lo hi b b' = (i : ℕ) → lo ≤ i → i < hi → cell b' i ≡ cell b i

-- all other cells are the same
pub record Within (lo hi : ℕ) (b b' : List ℕ) : Type 0 where
  pub below : (i : ℕ) → i < lo → cell b' i ≡ cell b i
  pub above : (i : ℕ) → hi ≤ i → cell b' i ≡ cell b i

pub within_more : {lo hi : ℕ} {b b' b'' : List ℕ} → Within lo hi b b' → Within lo hi b' b'' → Within lo hi b b''
within_more v w = record { below = λ i h. w.below i h ∙ v.below i h; above = λ i h. w.above i h ∙ v.above i h }

module _ (b b' : List ℕ) where
  under : {lo hi lo' hi' : ℕ} → Within lo hi b b' → hi' ≤ lo → Agree lo' hi' b b'
  under w h i l u = w.below i (lt_of_lt_of_le u h)

  over : {lo hi lo' hi' : ℕ} → Within lo hi b b' → hi ≤ lo' → Agree lo' hi' b b'
  over w h i l u = w.above i (le_trans h l)

  -- ---- each part is read from one run of cells

  pub part_agree : (at n : ℕ) → Agree at (at + n) b b' → part b' at n ≡ part b at n
  unfolding part cell_from
  part_agree at n h = rows_same (cell_from b' at) (cell_from b at) n 0 (λ i l u. h (at + i) (omega arith) (omega arith))

  rows_agree : {A : Type 0} (f : List ℕ → ℕ → A) (at limit : ℕ) → cell b' at ≡ cell b at → ((i : ℕ) → i < limit → f b' i ≡ f b i)
      → rows (f b') (counted b' at limit) 0 ≡ rows (f b) (counted b at limit) 0
  rows_agree f at limit e h = rw e (rows_same (f b') (f b) (min (cell b at) limit) 0 (λ i l u. h i (omega arith)))

  date_agree : Agree YEAR HOURS b b' → date_in b' ≡ date_in b
  unfolding date_in
  date_agree h = rw (h YEAR (lit≤ tt) (lit< tt), h MONTH (lit≤ tt) (lit< tt), h DAY (lit≤ tt) (lit< tt))

  hours_agree : Agree HOURS WEEKDAY b b' → day_hours_in b' ≡ day_hours_in b
  unfolding day_hours_in
  hours_agree h = rw (h HOURS (lit≤ tt) (lit< tt))

  weekday_agree : Agree WEEKDAY CLOCK b b' → weekday_in b' ≡ weekday_in b
  weekday_agree h = h WEEKDAY (lit≤ tt) (lit< tt)

  clock_agree : Agree CLOCK STARTED b b' → clock_in b' ≡ clock_in b
  clock_agree h = h CLOCK (lit≤ tt) (lit< tt)

  started_agree : Agree STARTED DIRECTIONS b b' → started_in b' ≡ started_in b
  started_agree h = rw (h STARTED (lit≤ tt) (lit< tt))

  direction_agree : Agree DIRECTIONS PROFILES b b' → (i : ℕ) → i < direction_limit → direction_at b' i ≡ direction_at b i
  direction_agree h i l = rw (h (DIRECTIONS + 1 + i * 3) (omega arith) (omega arith), h (DIRECTIONS + 2 + i * 3) (omega arith) (omega arith), h (DIRECTIONS + 3 + i * 3) (omega arith) (omega arith))

  directions_agree : Agree DIRECTIONS PROFILES b b' → directions_in b' ≡ directions_in b
  unfolding directions_in
  directions_agree h = rows_agree direction_at DIRECTIONS direction_limit (h DIRECTIONS (lit≤ tt) (lit< tt)) (direction_agree h)

  profiles_agree : Agree PROFILES PARTIES b b' → profiles_in b' ≡ profiles_in b
  unfolding profiles_in part cell_from
  profiles_agree h = rows_agree (λ x. cell_from x (PROFILES + 1)) PROFILES profile_limit (h PROFILES (lit≤ tt) (lit< tt)) (λ i l. h ((PROFILES + 1) + i) (omega arith) (omega arith))

  party_agree : Agree PARTIES OFFERED b b' → (i : ℕ) → i < party_limit → party_at b' i ≡ party_at b i
  unfolding party_at
  party_agree h i l =
      rw (part_agree (PARTIES + 1 + i * 17) 16 (λ j p q. h j (omega arith) (omega arith)), h (PARTIES + 17 + i * 17) (omega arith) (omega arith))

  parties_agree : Agree PARTIES OFFERED b b' → parties_in b' ≡ parties_in b
  unfolding parties_in
  parties_agree h = rows_agree party_at PARTIES party_limit (h PARTIES (lit≤ tt) (lit< tt)) (party_agree h)

  offered_agree : Agree OFFERED GRANTED b b' → offered_in b' ≡ offered_in b
  unfolding offered_in
  offered_agree h = part_agree OFFERED 800 h

  granted_agree : Agree GRANTED MATCHED b b' → granted_in b' ≡ granted_in b
  unfolding granted_in
  granted_agree h = part_agree GRANTED 800 h

  matched_agree : Agree MATCHED RIGHTS b b' → matched_in b' ≡ matched_in b
  unfolding matched_in
  matched_agree h = part_agree MATCHED 600 h

  right_agree : Agree RIGHTS PAIRS b b' → (i : ℕ) → i < right_limit → right_at b' i ≡ right_at b i
  unfolding right_at
  right_agree h i l =
      rw (h (RIGHTS + 1 + i * 8) (omega arith) (omega arith), h (RIGHTS + 2 + i * 8) (omega arith) (omega arith), h (RIGHTS + 3 + i * 8) (omega arith) (omega arith), part_agree (RIGHTS + 4 + i * 8) 5 (λ j p q. h j (omega arith) (omega arith)))

  rights_agree : Agree RIGHTS PAIRS b b' → rights_in b' ≡ rights_in b
  unfolding rights_in
  rights_agree h = rows_agree right_at RIGHTS right_limit (h RIGHTS (lit≤ tt) (lit< tt)) (right_agree h)

  pair_agree : Agree PAIRS CELLS b b' → (i : ℕ) → i < pair_limit → pair_at b' i ≡ pair_at b i
  unfolding pair_at
  pair_agree h i l =
      rw (h (PAIRS + 1 + i * 13) (omega arith) (omega arith), h (PAIRS + 2 + i * 13) (omega arith) (omega arith), h (PAIRS + 3 + i * 13) (omega arith) (omega arith), part_agree (PAIRS + 4 + i * 13) 5 (λ j p q. h j (omega arith) (omega arith)), part_agree (PAIRS + 9 + i * 13) 5 (λ j p q. h j (omega arith) (omega arith)))

  pairs_agree : Agree PAIRS CELLS b b' → pairs_in b' ≡ pairs_in b
  unfolding pairs_in
  pairs_agree h = rows_agree pair_at PAIRS pair_limit (h PAIRS (lit≤ tt) (lit< tt)) (pair_agree h)

  -- ---- and a change within one run leaves all other parts alone

  -- what f reads from the cells from `first` on and before `last`: as it was, where the change lies elsewhere
  unfoldable read_after : {A : Type 0} → (List ℕ → A) → ℕ → ℕ → ℕ → ℕ → A
  read_after f lo hi first last = if nat_le last lo || nat_le hi first then f b else f b'

  reads : {A : Type 0} (f : List ℕ → A) (lo hi first last : ℕ) → Within lo hi b b' → (Agree first last b b' → f b' ≡ f b)
      → f b' ≡ read_after f lo hi first last
  unfolding read_after
  reads f lo hi first last w same = go (nat_le last lo) (nat_le hi first) refl refl
    where
      go : (before behind : Bool) → nat_le last lo ≡ before → nat_le hi first ≡ behind → f b' ≡ (if before || behind then f b else f b')
      go true behind p q = same (under w (leb-true last lo p))
      go false true p q = same (over w (leb-true hi first q))
      go false false p q = refl

  -- the book after a change within one run, part by part
  abbrev book_after : ℕ → ℕ → Book
  book_after lo hi =
      record {
        day = record {
          date = read_after date_in lo hi YEAR HOURS;
          hours = read_after day_hours_in lo hi HOURS WEEKDAY;
          weekday = read_after weekday_in lo hi WEEKDAY CLOCK;
        };
        started = read_after started_in lo hi STARTED DIRECTIONS;
        clock = read_after clock_in lo hi CLOCK STARTED;
        directions = read_after directions_in lo hi DIRECTIONS PROFILES;
        profiles = read_after profiles_in lo hi PROFILES PARTIES;
        parties = read_after parties_in lo hi PARTIES OFFERED;
        offered = read_after offered_in lo hi OFFERED GRANTED;
        granted = read_after granted_in lo hi GRANTED MATCHED;
        rights = read_after rights_in lo hi RIGHTS PAIRS;
        pairs = read_after pairs_in lo hi PAIRS CELLS;
        matched = read_after matched_in lo hi MATCHED RIGHTS;
      }

  changes : (lo hi : ℕ) → Within lo hi b b' → book_of b' ≡ book_after lo hi
  unfolding book_of
  changes lo hi w =
      rw (
        reads date_in lo hi YEAR HOURS w date_agree,
        reads day_hours_in lo hi HOURS WEEKDAY w hours_agree,
        reads weekday_in lo hi WEEKDAY CLOCK w weekday_agree,
        reads started_in lo hi STARTED DIRECTIONS w started_agree,
        reads clock_in lo hi CLOCK STARTED w clock_agree,
        reads directions_in lo hi DIRECTIONS PROFILES w directions_agree,
        reads profiles_in lo hi PROFILES PARTIES w profiles_agree,
        reads parties_in lo hi PARTIES OFFERED w parties_agree,
        reads offered_in lo hi OFFERED GRANTED w offered_agree,
        reads granted_in lo hi GRANTED MATCHED w granted_agree,
        reads rights_in lo hi RIGHTS PAIRS w rights_agree,
        reads pairs_in lo hi PAIRS CELLS w pairs_agree,
        reads matched_in lo hi MATCHED RIGHTS w matched_agree,
      )

  pub only_directions : Within DIRECTIONS PROFILES b b' → book_of b' ≡ with_directions (book_of b) (directions_in b')
  unfolding book_of read_after
  only_directions w = changes DIRECTIONS PROFILES w

  pub only_profiles : Within PROFILES PARTIES b b' → book_of b' ≡ with_profiles (book_of b) (profiles_in b')
  unfolding book_of read_after
  only_profiles w = changes PROFILES PARTIES w

  pub only_parties : Within PARTIES OFFERED b b' → book_of b' ≡ with_parties (book_of b) (parties_in b')
  unfolding book_of read_after
  only_parties w = changes PARTIES OFFERED w

  pub only_offered : Within OFFERED GRANTED b b' → book_of b' ≡ with_offered (book_of b) (offered_in b')
  unfolding book_of read_after
  only_offered w = changes OFFERED GRANTED w

  pub only_granted : Within GRANTED MATCHED b b' → book_of b' ≡ with_granted (book_of b) (granted_in b')
  unfolding book_of read_after
  only_granted w = changes GRANTED MATCHED w

  pub only_rights : Within RIGHTS PAIRS b b' → book_of b' ≡ with_rights (book_of b) (rights_in b')
  unfolding book_of read_after
  only_rights w = changes RIGHTS PAIRS w

  pub only_pairs : Within PAIRS CELLS b b' → book_of b' ≡ with_pairs (book_of b) (pairs_in b')
  unfolding book_of read_after
  only_pairs w = changes PAIRS CELLS w

  pub only_matched : Within MATCHED RIGHTS b b' → book_of b' ≡ with_matched (book_of b) (matched_in b')
  unfolding book_of read_after
  only_matched w = changes MATCHED RIGHTS w

  pub only_clock : Within CLOCK DIRECTIONS b b' → book_of b' ≡ record (book_of b) { started = started_in b'; clock = clock_in b' }
  unfolding book_of read_after
  only_clock w = changes CLOCK DIRECTIONS w
