-- What the code reads in cells, as the rules read it in the book.
-- Assumes nothing.
use Prim.Native.Nat.{ℕ, ◌+◌, ◌-◌, ◌^◌, ◌≤◌, ◌<◌}
use Rattle.std.proofs.Common.{slice_index_or}
use mathlib.Core.Path.{◌≡◌, refl, sym, ap, ◌∙◌}
use mathlib.Core.Bool.{Bool, true, false, cond, ◌||◌, ◌&&◌, true≢false}
use mathlib.Core.List.{List}
use native.Mathlib.Omega.{arith}
use native.Mathlib.Nat.{zero-add}
use lib.Dec.{eqb, leb, ltb, lit≤}
use borrow.Author.Tests.{leb-false, ltb-false}
use lib.ListN.{length, get_or, get_or-eq_default}
use Rattle.rules.specs.Calendar.{is_date}
use Rattle.rules.specs.Sessions.{hours_in}
use Rattle.rules.specs.Book.{BookDate, NoDate, On, Direction, Pair, place, direction, right, left_at, shortfall_at, model_of, direction_limit, pair_limit, party_limit, profile_limit, right_limit}
use Rattle.rules.specs.Refusals.{direction_unknown, hour_unknown}
use Rattle.cells.specs.Layout.{CELLS, YEAR, MONTH, DAY, HOURS, DIRECTIONS, PROFILES, PARTIES, OFFERED, GRANTED, MATCHED, RIGHTS, PAIRS}
use Rattle.cells.specs.View.{InHour, Cells, cell, cell_from, part, counted, date_in, day_hours_in, direction_at, directions_in, profiles_in, party_at, parties_in, offered_in, granted_in, matched_in, right_at, rights_in, pair_at, pairs_in, book_of}
use Rattle.rules.proofs.Bools.{or_left, or_right}
use Rattle.cells.proofs.Rows.{rows-length, rows_at}

-- what is known of a lent book, as the code takes it: its count of cells, and that each is a number of 32 bits
pub lent_cells : {b : List ℕ} → length b ≡ CELLS → ((i : ℕ) → slice_index_or b i 0 < 2 ^ 32) → Cells b
lent_cells count each = record { count = count; each = λ i l. each i }

pub part_length : (b : List ℕ) (at n : ℕ) → length (part b at n) ≡ n
unfolding part
part_length b at n = rows-length (cell_from b at) n 0

-- a cell of a part
pub part_at : (b : List ℕ) (at n i : ℕ) → i < n → get_or (part b at n) i 0 ≡ cell b (at + i)
unfolding part cell_from
part_at b at n i l = rows_at (cell_from b at) n 0 i 0 l ∙ rw (zero-add i)

pub direction_count : (b : List ℕ) → length (book_of b).directions ≡ counted b DIRECTIONS direction_limit
unfolding book_of directions_in
direction_count b = rows-length (direction_at b) (counted b DIRECTIONS direction_limit) 0

pub offered_at : (b : List ℕ) (i : ℕ) → i < 800 → get_or (book_of b).offered i 0 ≡ cell b (OFFERED + i)
unfolding book_of offered_in
offered_at b i l = part_at b OFFERED 800 i l

pub granted_at : (b : List ℕ) (i : ℕ) → i < 800 → get_or (book_of b).granted i 0 ≡ cell b (GRANTED + i)
unfolding book_of granted_in
granted_at b i l = part_at b GRANTED 800 i l

pub offered_place : (b : List ℕ) (l h : ℕ) → InHour l h → get_or (book_of b).offered (place l h) 0 ≡ cell b (OFFERED + place l h)
offered_place b l h p = offered_at b (place l h) (omega arith)

pub granted_place : (b : List ℕ) (l h : ℕ) → InHour l h → get_or (book_of b).granted (place l h) 0 ≡ cell b (GRANTED + place l h)
granted_place b l h p = granted_at b (place l h) (omega arith)

-- the date of a book is one that exists, whatever its cells hold
pub date_exists : (b : List ℕ) (y m d : ℕ) → (book_of b).day.date ≡ On y m d → is_date y m d ≡ true
unfolding book_of date_in
date_exists b y m d e = sym (ap existing e) ∙ go (is_date (cell b YEAR) (cell b MONTH) (cell b DAY)) refl
  where
    existing : BookDate → Bool
    existing NoDate = true
    existing (On year month day) = is_date year month day

    go : (t : Bool) → is_date (cell b YEAR) (cell b MONTH) (cell b DAY) ≡ t → existing (cond t (On (cell b YEAR) (cell b MONTH) (cell b DAY)) NoDate) ≡ true
    go true f = f
    go false f = refl

-- a day has 23 to 25 hours, whatever its cell holds
pub hours_within : (b : List ℕ) → (23 ≤ day_hours_in b) × (day_hours_in b ≤ 25)
unfolding day_hours_in
hours_within b = go (eqb (cell b HOURS) 23) (eqb (cell b HOURS) 25)
  where
    go : (t u : Bool) → (23 ≤ cond {A = ℕ} t 23 (cond u 25 24)) × (cond {A = ℕ} t 23 (cond u 25 24) ≤ 25)
    go true u = (lit≤ tt, lit≤ tt)
    go false true = (lit≤ tt, lit≤ tt)
    go false false = (lit≤ tt, lit≤ tt)

-- a session has at most five hours
pub hours_few : (n model s : ℕ) → n ≤ 25 → hours_in n model s ≤ 5
unfolding hours_in
hours_few n model s h = go (eqb model 1) (leb s 1)
  where
    go : (t u : Bool) → cond t 1 (cond u (4 + n - 24) 4) ≤ 5
    go true u = omega arith
    go false true = omega arith
    go false false = omega arith

pub known_direction : (b : List ℕ) (d : ℕ) → direction_unknown (book_of b) d ≡ false → d < counted b DIRECTIONS direction_limit
known_direction b d e = rw (direction_count b) at (leb-false (length (book_of b).directions) d e)

-- a direction and an hour that are there
pub record Known (b : List ℕ) (d hour : ℕ) : Type 0 where
  pub direction : d < counted b DIRECTIONS direction_limit
  pub row : d < direction_limit
  pub first : 1 ≤ hour
  pub last : hour ≤ day_hours_in b
  pub most : hour ≤ 25

known_hour : (b : List ℕ) (hour : ℕ) → hour_unknown (book_of b) hour ≡ false → (1 ≤ hour) × ((hour ≤ day_hours_in b) × (hour ≤ 25))
unfolding hour_unknown book_of
known_hour b hour f =
    let n : hour ≤ day_hours_in b = ltb-false (day_hours_in b) hour (or_right (ltb hour 1) (ltb (day_hours_in b) hour) f) in
    let k = hours_within b in
    (ltb-false hour 1 (or_left (ltb hour 1) (ltb (day_hours_in b) hour) f), (n, omega arith))

pub known : (b : List ℕ) (d hour : ℕ) → (leb (length (book_of b).directions) d || hour_unknown (book_of b) hour) ≡ false → Known b d hour
known b d hour e =
    let l : d < counted b DIRECTIONS direction_limit = rw (direction_count b) at (leb-false (length (book_of b).directions) d (or_left _ (hour_unknown (book_of b) hour) e)) in
    let h = known_hour b hour (or_right (leb (length (book_of b).directions) d) (hour_unknown (book_of b) hour) e) in
    record { direction = l; row = omega arith; first = h.0; last = h.1.0; most = h.1.1 }

pub slot : {b : List ℕ} {d hour : ℕ} → Known b d hour → InHour d hour
slot k = let l = k.row in record { in_table = omega arith; from = k.first; to = k.most }

-- capacity left, and the shortfall
pub left_at_lem : (b : List ℕ) (l h : ℕ) → InHour l h → left_at (book_of b) l h ≡ cell b (OFFERED + place l h) - cell b (GRANTED + place l h)
left_at_lem b l h p = rw (offered_place b l h p, granted_place b l h p)

pub shortfall_at_lem : (b : List ℕ) (l h : ℕ) → InHour l h → shortfall_at (book_of b) l h ≡ cell b (GRANTED + place l h) - cell b (OFFERED + place l h)
shortfall_at_lem b l h p = rw (offered_place b l h p, granted_place b l h p)

-- ---- profiles

pub profile_count : (b : List ℕ) → length (book_of b).profiles ≡ counted b PROFILES profile_limit
unfolding book_of profiles_in
profile_count b = part_length b (PROFILES + 1) (counted b PROFILES profile_limit)

pub profile_at : (b : List ℕ) (p : ℕ) → p < counted b PROFILES profile_limit → get_or (book_of b).profiles p 0 ≡ cell b (PROFILES + 1 + p)
unfolding book_of profiles_in
profile_at b p l = part_at b (PROFILES + 1) (counted b PROFILES profile_limit) p l

pub record KnownProfile (b : List ℕ) (p hour : ℕ) : Type 0 where
  pub profile : p < profile_limit
  pub first : 1 ≤ hour
  pub last : hour ≤ day_hours_in b
  pub row : InHour (24 + p) hour

pub known_profile : (b : List ℕ) (p hour : ℕ) → (leb (length (book_of b).profiles) p || hour_unknown (book_of b) hour) ≡ false → KnownProfile b p hour
known_profile b p hour e =
    let l : p < counted b PROFILES profile_limit = rw (profile_count b) at (leb-false (length (book_of b).profiles) p (or_left _ (hour_unknown (book_of b) hour) e)) in
    let h = known_hour b hour (or_right (leb (length (book_of b).profiles) p) (hour_unknown (book_of b) hour) e) in
    record { profile = omega arith; first = h.0; last = h.1.0; row = record { in_table = omega arith; from = h.0; to = h.1.1 } }

-- ---- parties and rights

pub party_count : (b : List ℕ) → length (book_of b).parties ≡ counted b PARTIES party_limit
unfolding book_of parties_in
party_count b = rows-length (party_at b) (counted b PARTIES party_limit) 0

pub direction_at_lem : (b : List ℕ) (d : ℕ) → d < counted b DIRECTIONS direction_limit → direction (book_of b).directions d ≡ direction_at b d
unfolding book_of directions_in
direction_at_lem b d l = rows_at (direction_at b) (counted b DIRECTIONS direction_limit) 0 d (record { out = 0; into = 0; model = 0 }) l ∙ ap (direction_at b) (zero-add d)

pub model_at : (b : List ℕ) (d : ℕ) → d < counted b DIRECTIONS direction_limit → model_of (book_of b) d ≡ (direction_at b d).model
model_at b d l = ap (λ (x : Direction). x.model) (direction_at_lem b d l)

pub right_count : (b : List ℕ) → length (book_of b).rights ≡ counted b RIGHTS right_limit
unfolding book_of rights_in
right_count b = rows-length (right_at b) (counted b RIGHTS right_limit) 0

pub right_at_lem : (b : List ℕ) (r : ℕ) → r < counted b RIGHTS right_limit → right (book_of b).rights r ≡ right_at b r
unfolding book_of rights_in
right_at_lem b r l = rows_at (right_at b) (counted b RIGHTS right_limit) 0 r _ l ∙ ap (right_at b) (zero-add r)

-- a table that is not full where an entry is needed
pub has_room : (n limit : ℕ) (need : Bool) → (leb limit n && need) ≡ false → need ≡ true → n < limit
has_room n limit need e h = go (leb limit n) refl
  where
    go : (t : Bool) → leb limit n ≡ t → n < limit
    go true t = absurd (true≢false (rw (t, h) at e))
    go false t = leb-false limit n t

-- ---- pairs and matched sessions

pub pair_count : (b : List ℕ) → length (book_of b).pairs ≡ counted b PAIRS pair_limit
unfolding book_of pairs_in
pair_count b = rows-length (pair_at b) (counted b PAIRS pair_limit) 0

pub pair_at_lem : (b : List ℕ) (i : ℕ) (z : Pair) → i < counted b PAIRS pair_limit → get_or (book_of b).pairs i z ≡ pair_at b i
unfolding book_of pairs_in
pair_at_lem b i z l = rows_at (pair_at b) (counted b PAIRS pair_limit) 0 i z l ∙ ap (pair_at b) (zero-add i)

pub matched_at : (b : List ℕ) (i : ℕ) → i < 600 → get_or (book_of b).matched i 0 ≡ cell b (MATCHED + i)
unfolding book_of matched_in
matched_at b i l = part_at b MATCHED 600 i l

pub matched_past : (b : List ℕ) (i : ℕ) → 600 ≤ i → get_or (book_of b).matched i 0 ≡ 0
unfolding book_of matched_in
matched_past b i l = get_or-eq_default (part b MATCHED 600) 0 (rw (part_length b MATCHED 600) l)
