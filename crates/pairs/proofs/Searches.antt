-- The search for a pair is the rules' search.
-- Assumes nothing.
use Rattle.std.proofs.Common.{◌≡◌, ℕ, ◌≤◌, ◌<◌, Bool, true, false, List, Option, Some, None, length, get_or, refl, sym, ◌∙◌, arith}
use Rattle.std.specs.List.{position}
use borrow.Author.Tests.{lt-ltb, le-ltb}
use Rattle.rules.specs.Book.{Pair, pair_limit}
use Rattle.rules.specs.Nominations.{is_pair_of, pair_taken, pair_of, empty_pair}
use Rattle.cells.specs.Layout.{PAIRS}
use Rattle.cells.specs.View.{counted, rows_in, pair_read, book_of}
use Rattle.stores.proofs.Firsts.{place_of, some_is, position_in, position_at, position_none}
use Rattle.cells.proofs.Entries.{pairs_are}
use Rattle.cells.proofs.Views.{pair_count}
use Rattle.stores.proofs.Pairs.{pair_taken_lem, pair_from}
use Rattle.pairs.specs.declared.PairKey.{PairKey}
use Rattle.pairs.specs.Search.{standing_pair}

-- a pair with the key
abbrev pub is_pair : PairKey → Pair → Bool
is_pair key = is_pair_of key.right key.out key.into

-- such a pair whose sides were never sent
abbrev pub empty : PairKey → Pair
empty key = empty_pair key.right key.out key.into

-- where the pair stands, or the length of the table
abbrev pub place : List ℕ → PairKey → ℕ
place b key = place_of (is_pair key) (book_of b).pairs

-- what the library's search over the rows finds
pub row_found : (b : List ℕ) (key : PairKey) {rs : List (List ℕ)} {f : Option ℕ} → rs ≡ rows_in b PAIRS 13 pair_limit → f ≡ position (λ row. is_pair key (pair_read row)) rs → f ≡ standing_pair b key
unfolding standing_pair
row_found b key {rs} e q = q ∙ position_in (is_pair key) pair_read rs ∙ rw (e, pairs_are b) refl

-- a pair that the search found
pub record Standing (b : List ℕ) (key : PairKey) (k : ℕ) : Type 0 where
  pub there : pair_taken key.right key.out key.into (book_of b).pairs ≡ true
  pub row : k < counted b PAIRS pair_limit
  pub most : k < pair_limit
  pub pair_is : pair_of key.right key.out key.into (book_of b).pairs ≡ get_or (book_of b).pairs k (empty key)
  pub place_is : place b key ≡ k

pub standing_at : (b : List ℕ) (key : PairKey) (k : ℕ) → standing_pair b key ≡ Some k → Standing b key k
unfolding standing_pair
standing_at b key k e =
    let f : (k ≡ place b key) × (k < length (book_of b).pairs) = position_at (is_pair key) (book_of b).pairs k e in
    let l : k < counted b PAIRS pair_limit = rw (pair_count b) at f.1 in
    let p : place b key ≡ k = sym f.0 in
    record {
      there = pair_taken_lem _ _ _ (book_of b).pairs ∙ some_is (is_pair key) (book_of b).pairs ∙ lt-ltb (place b key) (length (book_of b).pairs) (rw p f.1);
      row = l;
      most = omega arith;
      pair_is = pair_from _ _ _ (book_of b).pairs ∙ rw p refl;
      place_is = p;
    }

-- no pair was found
pub record Lacking (b : List ℕ) (key : PairKey) : Type 0 where
  pub none : pair_taken key.right key.out key.into (book_of b).pairs ≡ false
  pub past : length (book_of b).pairs ≤ place b key

pub standing_none : (b : List ℕ) (key : PairKey) → standing_pair b key ≡ None → Lacking b key
unfolding standing_pair
standing_none b key e =
    let p : length (book_of b).pairs ≤ place b key = position_none (is_pair key) (book_of b).pairs e in
    record {
      none = pair_taken_lem _ _ _ (book_of b).pairs ∙ some_is (is_pair key) (book_of b).pairs ∙ le-ltb (place b key) (length (book_of b).pairs) p;
      past = p;
    }
