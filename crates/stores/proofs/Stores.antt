-- What the stores of a granted call do to the book that the cells hold.
-- Assumes nothing.
use Prim.Native.Nat.{ℕ, ◌+◌, ◌≤◌, ◌<◌}
use mathlib.Core.Path.{◌≡◌, refl, sym, ap, ◌∙◌}
use mathlib.Core.List.{List, []}
use native.Mathlib.Nat.{zero-add}
use native.Mathlib.Omega.{arith}
use lib.Dec.{lit≤, lit<}
use lib.ListN.{set, length, length-set, replicate, length-replicate, get_or-replicate}
use lib.Seq.{get_or-set_same, get_or-set_other, ext_get_or}
use Rattle.rules.specs.Book.{opened}
use Rattle.cells.specs.Layout.{CELLS, YEAR, MONTH, DAY, HOURS, WEEKDAY, CLOCK, STARTED, DIRECTIONS, PROFILES, PARTIES, OFFERED, GRANTED, MATCHED, RIGHTS, PAIRS}
use Rattle.cells.specs.Loops.{rows}
use Rattle.cells.specs.View.{cell, cell_from, part, date_read, date_in, hours_read, day_hours_in, day_in, directions_in, profiles_in, parties_in, offered_in, granted_in, matched_in, rights_in, pairs_in, book_of}
use Rattle.stores.specs.Stores.{clocked, emptied}
use Rattle.cells.proofs.Rows.{rows-length, rows-set}
use Rattle.cells.proofs.Views.{part_at}
use Rattle.cells.proofs.Regions.{Within, within_more, only_offered, only_matched, only_clock}
use Rattle.cells.specs.Updates.{with_offered, with_matched, with_clock}

-- ---- one cell

pub set_within : (b : List ℕ) (at v lo hi : ℕ) → lo ≤ at → at < hi → Within lo hi b (set b at v)
set_within b at v lo hi l u =
    record {
      below = λ i h. get_or-set_other b at i v 0 (λ e. omega arith);
      above = λ i h. get_or-set_other b at i v 0 (λ e. omega arith);
    }

pub part_set : (b : List ℕ) (at n i v : ℕ) → i < n → at + i < length b → part (set b (at + i) v) at n ≡ set (part b at n) i v
unfolding part cell_from
part_set b at n i v l u =
    rows-set (cell_from b at) (cell_from (set b (at + i) v) at) n 0 i l (λ j e. get_or-set_other b (at + i) (at + j) v 0 (λ q. e (omega arith)))
    ∙ ap (λ (x : ℕ). set (rows (cell_from b at) n 0) i x) (rw (zero-add i) (get_or-set_same b (at + i) v 0 u))

-- ---- the tables

pub offered_set : (b : List ℕ) (i v : ℕ) → i < 800 → length b ≡ CELLS → book_of (set b (OFFERED + i) v) ≡ with_offered (book_of b) (set (book_of b).offered i v)
unfolding book_of offered_in
offered_set b i v l u =
    only_offered b (set b (OFFERED + i) v) (set_within b (OFFERED + i) v OFFERED GRANTED (omega arith) (omega arith))
    ∙ ap (λ (x : List ℕ). with_offered (book_of b) x) (part_set b OFFERED 800 i v l (omega arith))

pub matched_set : (b : List ℕ) (i v : ℕ) → i < 600 → length b ≡ CELLS → book_of (set b (MATCHED + i) v) ≡ with_matched (book_of b) (set (book_of b).matched i v)
unfolding book_of matched_in
matched_set b i v l u =
    only_matched b (set b (MATCHED + i) v) (set_within b (MATCHED + i) v MATCHED RIGHTS (omega arith) (omega arith))
    ∙ ap (λ (x : List ℕ). with_matched (book_of b) x) (part_set b MATCHED 600 i v l (omega arith))

pub clock_set : (b : List ℕ) (time : ℕ) → length b ≡ CELLS → book_of (clocked time b) ≡ with_clock (book_of b) time
unfolding book_of
clock_set b time u =
    let w = within_more (set_within b CLOCK time CLOCK DIRECTIONS (lit≤ tt) (lit< tt)) (set_within (set b CLOCK time) STARTED 1 CLOCK DIRECTIONS (lit≤ tt) (lit< tt)) in
    only_clock b (clocked time b) w
    ∙ rw (get_or-set_same (set b CLOCK time) STARTED 1 0 (simp length-set (omega arith)), get_or-set_other (set b CLOCK time) STARTED CLOCK 1 0 (λ e. omega arith), get_or-set_same b CLOCK time 0 (omega arith))

-- ---- a book with no entries

-- all cells after those of the day are 0
abbrev Clear : List ℕ → Type 0
Clear b = (i : ℕ) → CLOCK ≤ i → i < CELLS → cell b i ≡ 0

part_clear : (b : List ℕ) (at n : ℕ) → ((i : ℕ) → i < n → cell b (at + i) ≡ 0) → part b at n ≡ replicate n 0
unfolding part cell_from
part_clear b at n h =
    ext_get_or 0 (part b at n) (replicate n 0) (rows-length (cell_from b at) n 0 ∙ sym (length-replicate {A = ℕ} n 0))
    (λ i l. let k : i < n = rw (rows-length (cell_from b at) n 0) at l in part_at b at n i k ∙ h i k ∙ sym (get_or-replicate n i 0 0 k))

part_none : (b : List ℕ) (at : ℕ) → part b at 0 ≡ []
unfolding part rows
part_none b at = refl

clear_book : (b : List ℕ) → Clear b → book_of b ≡ opened (day_in b)
unfolding book_of opened directions_in profiles_in parties_in rights_in pairs_in offered_in granted_in matched_in rows
clear_book b h =
    rw (
      h CLOCK (lit≤ tt) (lit< tt),
      h STARTED (lit≤ tt) (lit< tt),
      h DIRECTIONS (lit≤ tt) (lit< tt),
      h PROFILES (lit≤ tt) (lit< tt),
      h PARTIES (lit≤ tt) (lit< tt),
      h RIGHTS (lit≤ tt) (lit< tt),
      h PAIRS (lit≤ tt) (lit< tt),
      part_none b (PROFILES + 1),
      part_clear b OFFERED 800 (λ i l. h (OFFERED + i) (omega arith) (omega arith)),
      part_clear b GRANTED 800 (λ i l. h (GRANTED + i) (omega arith) (omega arith)),
      part_clear b MATCHED 600 (λ i l. h (MATCHED + i) (omega arith) (omega arith)),
    )

clear_set : (b : List ℕ) (at v : ℕ) → at < CLOCK → Clear b → Clear (set b at v)
clear_set b at v l h i p q = get_or-set_other b at i v 0 (λ e. omega arith) ∙ h i p q

emptied_clear : (y m d n weekday : ℕ) → Clear (emptied y m d n weekday)
unfolding emptied
emptied_clear y m d n weekday =
    let b : List ℕ = replicate CELLS 0 in
    clear_set (set (set (set (set b YEAR y) MONTH m) DAY d) HOURS n) WEEKDAY weekday (lit< tt)
    (clear_set (set (set (set b YEAR y) MONTH m) DAY d) HOURS n (lit< tt)
    (clear_set (set (set b YEAR y) MONTH m) DAY d (lit< tt)
    (clear_set (set b YEAR y) MONTH m (lit< tt) (clear_set b YEAR y (lit< tt) (λ i p q. get_or-replicate CELLS i 0 0 q)))))

pub emptied_book : (y m d n weekday : ℕ) → book_of (emptied y m d n weekday) ≡ opened (record { date = date_read y m d; hours = hours_read n; weekday = weekday })
unfolding emptied date_in day_hours_in
emptied_book y m d n weekday = clear_book (emptied y m d n weekday) (emptied_clear y m d n weekday)
