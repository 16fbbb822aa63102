-- The rows of a table: cut from the cells, and read as the entries of the book.
-- Assumes nothing.
use Rattle.std.proofs.Common.{◌≡◌, ℕ, true, false, leb, zero, suc, ◌+◌, ◌-◌, ◌*◌, ◌/◌, ◌≤◌, ◌<◌, List, ◌∷◌, map, length, get_or, take, drop, refl, sym, ap, ◌∙◌, arith}
use Rattle.std.proofs.Math.Nat.{suc-mul, zero-mul, add-zero, mul-div_cancel, mul-le-mul_right, min-le_right}
use Rattle.std.proofs.Math.Seq.{drop-cons}
use borrow.Author.Tests.{lt-leb, le-leb}
use Rattle.std.proofs.lemmas.List.{length-map, get_or-map, take-take, drop-take, drop-drop, length-take-le, length-drop}
use Rattle.std.specs.Simd.{first_chunks}
use Rattle.cells.specs.Loops.{rows}
use Rattle.rules.specs.Book.{direction_limit, party_limit, right_limit, pair_limit}
use Rattle.cells.specs.Layout.{DIRECTIONS, PARTIES, RIGHTS, PAIRS}
use Rattle.cells.specs.View.{cell, cell_from, part, counted, row_at, rows_in, direction_read, direction_at, directions_in, party_read, party_at, parties_in, right_read, right_at, rights_in, pair_read, pair_at, pairs_in, book_of}
use Rattle.cells.proofs.Rows.{rows-length, rows_same}
use Rattle.cells.proofs.Views.{part_at}

-- cells that are there
cut : (b : List ℕ) (at n k : ℕ) → at + k + n ≤ length b → take n (drop (at + k) b) ≡ rows (cell_from b at) n k
unfolding rows cell_from
cut b at zero k h = refl
cut b at (suc n) k h =
    let next : suc (at + k) ≡ at + (k + 1) = omega arith in
    rw (drop-cons b (at + k) 0 (omega arith), next) (ap (λ (l : List ℕ). cell b (at + k) ∷ l) (cut b at n (k + 1) (omega arith)))

cut_part : (b : List ℕ) (at n : ℕ) → at + n ≤ length b → take n (drop at b) ≡ part b at n
unfolding part
cut_part b at n h = ap (λ (j : ℕ). take n (drop j b)) (sym (add-zero at)) ∙ cut b at n 0 (omega arith)

module _ (b : List ℕ) (at w : ℕ) where
  -- n rows from number k on, of cells that begin with them
  chunks : (n k m from : ℕ) → from ≡ at + 1 + k * w → n * w ≤ m → from + n * w ≤ length b → first_chunks w n (take m (drop from b)) ≡ rows (row_at b at w) n k
  unfolding rows
  chunks zero k m from e h l = refl
  chunks (suc n) k m from e h l =
      let more : suc n * w ≡ n * w + w = suc-mul n w in
      let next : suc k * w ≡ k * w + w = suc-mul k w in
      let one : k + 1 ≡ suc k = omega arith in
      let fits : n * w ≤ m - w = omega arith in
      let there : from + w + n * w ≤ length b = omega arith in
      let split : m ≡ w + (m - w) = omega arith in
      let past : from + w ≡ at + 1 + (k + 1) * w = rw one (omega arith) in
      let first : take w (take m (drop from b)) ≡ row_at b at w k =
      take-take w m (drop from b) (omega arith) ∙ cut_part b from w (omega arith) ∙ ap (λ (j : ℕ). part b j w) e in
      let rest : drop w (take m (drop from b)) ≡ take (m - w) (drop (from + w) b) =
      ap (λ (j : ℕ). drop w (take j (drop from b))) split ∙ drop-take w (m - w) (drop from b) ∙ ap (take (m - w)) (drop-drop w from b) in
      rw (first, rest) (ap (λ (l : List (List ℕ)). row_at b at w k ∷ l) (chunks n (k + 1) (m - w) (from + w) past fits there))

  -- the rows of a table that lies in the cells
  pub rows_cut : (n limit : ℕ) → 0 < w → n ≡ counted b at limit → at + 1 + limit * w ≤ length b
      → first_chunks w (length (take (at + 1 + n * w - (at + 1)) (drop (at + 1) b)) / w) (take (at + 1 + n * w - (at + 1)) (drop (at + 1) b)) ≡ rows_in b at w limit
  unfolding rows_in
  rows_cut n limit p e h =
      let size : at + 1 + n * w - (at + 1) ≡ n * w = omega arith in
      let few : n ≤ limit = rw e (min-le_right (cell b at) limit) in
      let within : n * w ≤ limit * w = mul-le-mul_right w few in
      let zeros : 0 * w ≡ 0 = zero-mul w in
      let start : at + 1 ≡ at + 1 + 0 * w = omega arith in
      let room : at + 1 + n * w ≤ length b = omega arith in
      let rest : length (drop (at + 1) b) ≡ length b - (at + 1) = length-drop (at + 1) b in
      let all : length (take (n * w) (drop (at + 1) b)) ≡ n * w = length-take-le (n * w) (drop (at + 1) b) (omega arith) in
      rw (size, all, mul-div_cancel n p, ← e) (chunks n 0 (n * w) (at + 1) start (omega arith) room)

  -- as many rows as are counted, and no more than the limit
  pub rows_counted : (limit : ℕ) → length (rows_in b at w limit) ≡ counted b at limit
  unfolding rows_in
  rows_counted limit = rows-length (row_at b at w) (counted b at limit) 0

  pub few_rows : (limit : ℕ) → length (rows_in b at w limit) ≤ limit
  few_rows limit = rw (rows_counted limit) (min-le_right (cell b at) limit)

-- ---- the entries of the book

module _ {A B : Type 0} (h : A → B) (f : ℕ → A) where
  mapped : (n k : ℕ) → map h (rows f n k) ≡ rows (λ i. h (f i)) n k
  unfolding rows
  mapped zero k = refl
  mapped (suc n) k = ap (λ (l : List B). h (f k) ∷ l) (mapped n (k + 1))

-- a cell and a part of a row
field : (b : List ℕ) (at n k to : ℕ) → k < n → at + k ≡ to → get_or (part b at n) k 0 ≡ cell b to
field b at n k to l e = part_at b at n k l ∙ ap (cell b) e

inner : (b : List ℕ) (at n from m to : ℕ) → from + m ≤ n → at + from ≡ to → part (part b at n) from m ≡ part b to m
unfolding part cell_from
inner b at n from m to h e = rows_same _ _ m 0 (λ i l u. field b at n (from + i) (to + i) (omega arith) (omega arith))

module _ (b : List ℕ) (i : ℕ) where
  pub direction_row : direction_read (row_at b DIRECTIONS 3 i) ≡ direction_at b i
  direction_row =
      let at : ℕ = DIRECTIONS + 1 + i * 3 in
      rw (field b at 3 0 (DIRECTIONS + 1 + i * 3) (omega arith) (omega arith), field b at 3 1 (DIRECTIONS + 2 + i * 3) (omega arith) (omega arith), field b at 3 2 (DIRECTIONS + 3 + i * 3) (omega arith) (omega arith))

  pub party_row : party_read (row_at b PARTIES 17 i) ≡ party_at b i
  unfolding party_at
  party_row =
      let at : ℕ = PARTIES + 1 + i * 17 in
      rw (inner b at 17 0 16 at (omega arith) (omega arith), field b at 17 16 (PARTIES + 17 + i * 17) (omega arith) (omega arith))

  pub right_row : right_read (row_at b RIGHTS 8 i) ≡ right_at b i
  unfolding right_at
  right_row =
      let at : ℕ = RIGHTS + 1 + i * 8 in
      rw (field b at 8 0 (RIGHTS + 1 + i * 8) (omega arith) (omega arith), field b at 8 1 (RIGHTS + 2 + i * 8) (omega arith) (omega arith), field b at 8 2 (RIGHTS + 3 + i * 8) (omega arith) (omega arith), inner b at 8 3 5 (RIGHTS + 4 + i * 8) (omega arith) (omega arith))

  pub pair_row : pair_read (row_at b PAIRS 13 i) ≡ pair_at b i
  unfolding pair_at
  pair_row =
      let at : ℕ = PAIRS + 1 + i * 13 in
      rw (field b at 13 0 (PAIRS + 1 + i * 13) (omega arith) (omega arith), field b at 13 1 (PAIRS + 2 + i * 13) (omega arith) (omega arith), field b at 13 2 (PAIRS + 3 + i * 13) (omega arith) (omega arith), inner b at 13 3 5 (PAIRS + 4 + i * 13) (omega arith) (omega arith), inner b at 13 8 5 (PAIRS + 9 + i * 13) (omega arith) (omega arith))

module _ (b : List ℕ) where
  pub directions_are : (book_of b).directions ≡ map direction_read (rows_in b DIRECTIONS 3 direction_limit)
  unfolding book_of directions_in rows_in
  directions_are = sym (mapped _ _ (counted b DIRECTIONS direction_limit) 0 ∙ rows_same _ _ (counted b DIRECTIONS direction_limit) 0 (λ i l u. direction_row b i))

  pub parties_are : (book_of b).parties ≡ map party_read (rows_in b PARTIES 17 party_limit)
  unfolding book_of parties_in rows_in
  parties_are = sym (mapped _ _ (counted b PARTIES party_limit) 0 ∙ rows_same _ _ (counted b PARTIES party_limit) 0 (λ i l u. party_row b i))

  pub rights_are : (book_of b).rights ≡ map right_read (rows_in b RIGHTS 8 right_limit)
  unfolding book_of rights_in rows_in
  rights_are = sym (mapped _ _ (counted b RIGHTS right_limit) 0 ∙ rows_same _ _ (counted b RIGHTS right_limit) 0 (λ i l u. right_row b i))

  pub pairs_are : (book_of b).pairs ≡ map pair_read (rows_in b PAIRS 13 pair_limit)
  unfolding book_of pairs_in rows_in
  pairs_are = sym (mapped _ _ (counted b PAIRS pair_limit) 0 ∙ rows_same _ _ (counted b PAIRS pair_limit) 0 (λ i l u. pair_row b i))

-- ---- entries by their numbers

module _ {A : Type 0} (h : List ℕ → A) (xs : List A) (rs : List (List ℕ)) (e : xs ≡ map h rs) where
  size : length xs ≡ length rs
  size = ap length e ∙ length-map rs h

  -- there is none with a number past the last row
  pub past_last : (i : ℕ) → length rs ≤ i → leb (length xs) i ≡ true
  past_last i l = rw size (le-leb (length rs) i l)

  pub is_there : (i : ℕ) → i < length rs → leb (length xs) i ≡ false
  is_there i l = rw size (lt-leb (length rs) i l)

  pub entry_is : (i : ℕ) (z : A) (row : List ℕ) → i < length rs → row ≡ get_or rs i row → get_or xs i z ≡ h row
  entry_is i z row l q = rw e (get_or-map h rs i row z l) ∙ ap h (sym q)
