-- The test for a full table is 13 of the rules, and the pair of a granted nomination, found or new, is that of the rules.
-- Assumes nothing.
use Rattle.std.specs.Prelude.{Option, Some, None, Ok, Err}
use Rattle.rules.specs.declared.Refusal.{Refusal}
use Rattle.rules.specs.declared.Refusal.TheVariants.{Full}
use borrow.Author.Tests.{leb-false}
use Prim.Native.Nat.{ℕ, ◌+◌, ◌<◌}
use mathlib.Core.Path.{◌≡◌, refl, sym, ap, ◌∙◌}
use mathlib.Core.Bool.{Bool, true, false, ◌&&◌, not, and-false}
use mathlib.Core.List.{List, [], ◌∷◌, ◌++◌}
use native.Mathlib.Omega.{arith}
use lib.Dec.{leb}
use lib.ListN.{length, set, length-append}
use lib.Seq.{set-append_seam, get_or-append_seam}
use Rattle.rules.specs.Basics.{no_mw}
use Rattle.rules.specs.Book.{Book, Pair, pair_limit}
use Rattle.rules.specs.Nominations.{pair_taken, with_side}
use Rattle.cells.specs.Layout.{CELLS, PAIRS}
use Rattle.cells.specs.View.{counted, pair_at, book_of}
use Rattle.cells.specs.Updates.{with_pairs}
use Rattle.stores.proofs.Firsts.{changed_there, changed_new}
use Rattle.stores.proofs.Tables.{length-row}
use Rattle.stores.proofs.Pairs.{with_pair_lem, pair_more}
use Rattle.cells.proofs.Views.{pair_count, pair_at_lem}
use Rattle.pairs.specs.declared.PairKey.{PairKey}
use Rattle.pairs.specs.Search.{standing_pair}
use Rattle.pairs.specs.Work.{entry_of, entry_in, NewPair, PairThere}
use Rattle.pairs.proofs.Searches.{is_pair, empty, standing_at, standing_none}

-- ---- the entry

-- where 13 applies
abbrev pub IsFull : Book → PairKey → Bool
IsFull b key = leb pair_limit (length b.pairs) && not (pair_taken key.right key.out key.into b.pairs)

module _ (b : List ℕ) (key : PairKey) where
  -- it is refused there, with 13's refusal
  pub full_refused : {r : Refusal} → Err r ≡ entry_in b key → (IsFull (book_of b) key ≡ true) × (r ≡ Full)
  unfolding entry_in
  full_refused {r} q = go (leb pair_limit (counted b PAIRS pair_limit)) (standing_pair b key) refl refl q
    where
      go : (t : Bool) (f : Option ℕ) → leb pair_limit (counted b PAIRS pair_limit) ≡ t → standing_pair b key ≡ f → Err r ≡ entry_of t f
          → (IsFull (book_of b) key ≡ true) × (r ≡ Full)
      go t (Some k) u e z = absurd (let n : ◌≡◌ {A = ℕ} 0 1 = cc in omega arith)
      go true None u e z = (rw (pair_count b, u, (standing_none b key e).none), cc)
      go false None u e z = absurd (let n : ◌≡◌ {A = ℕ} 0 1 = cc in omega arith)

  -- it has the pair that stands
  pub full_passed : {f : Option ℕ} → Ok f ≡ entry_in b key → (IsFull (book_of b) key ≡ false) × (f ≡ standing_pair b key)
  unfolding entry_in
  full_passed {f} q = go (leb pair_limit (counted b PAIRS pair_limit)) (standing_pair b key) refl refl q
    where
      go : (t : Bool) (s : Option ℕ) → leb pair_limit (counted b PAIRS pair_limit) ≡ t → standing_pair b key ≡ s → Ok f ≡ entry_of t s
          → (IsFull (book_of b) key ≡ false) × (f ≡ standing_pair b key)
      go t (Some k) u e z = (rw ((standing_at b key k e).there) (and-false _), rw e (cc))
      go true None u e z = absurd (let n : ◌≡◌ {A = ℕ} 0 1 = cc in omega arith)
      go false None u e z = (rw (pair_count b, u), rw e (cc))

  -- a new one has room
  pub room_left : Ok None ≡ entry_in b key → counted b PAIRS pair_limit < pair_limit
  unfolding entry_in
  room_left q = go (leb pair_limit (counted b PAIRS pair_limit)) (standing_pair b key) refl q
    where
      go : (t : Bool) (f : Option ℕ) → leb pair_limit (counted b PAIRS pair_limit) ≡ t → Ok None ≡ entry_of t f → counted b PAIRS pair_limit < pair_limit
      go t (Some k) u z = absurd (let n : ◌≡◌ {A = ℕ} 0 1 = cc in omega arith)
      go true None u z = absurd (let n : ◌≡◌ {A = ℕ} 0 1 = cc in omega arith)
      go false None u z = leb-false pair_limit (counted b PAIRS pair_limit) u

-- ---- the pair of a granted nomination

-- one that the search found
pub found_there : (b : List ℕ) (key : PairKey) (k : ℕ) → length b ≡ CELLS → standing_pair b key ≡ Some k → PairThere b key k b
found_there b key k u e =
    let f = standing_at b key k e in
    let p = f.place_is in
    record {
      count = u;
      row = f.row;
      rest = refl;
      pair = λ side mw.
          sym (with_pair_lem _ _ _ side mw (book_of b).pairs
          ∙ changed_there (is_pair key) (with_side side mw) _ (empty key) (book_of b).pairs (rw (p, pair_count b) f.row)
          ∙ rw p (ap (λ (x : Pair). set (book_of b).pairs k (with_side side mw x)) (pair_at_lem b k (empty key) f.row)));
    }

module _ (b : List ℕ) (key : PairKey) (e : standing_pair b key ≡ None) where
  -- a new one
  module _ (n : ℕ) (b' : List ℕ) (l : counted b PAIRS pair_limit < pair_limit) (w : NewPair b key n b') where
    here : n ≡ length (book_of b).pairs
    here = w.number_is ∙ sym (pair_count b)

    opened_book : book_of b' ≡ with_pairs (book_of b) ((book_of b).pairs ++ (empty key ∷ []))
    opened_book = ap book_of w.cells_are ∙ pair_more b n _ _ _ no_mw no_mw (rw w.number_is l) w.cells.count refl refl (sym w.number_is)

    opened_pairs : (book_of b').pairs ≡ (book_of b).pairs ++ (empty key ∷ [])
    opened_pairs = ap (λ (x : Book). x.pairs) opened_book

    opened_row : n < counted b' PAIRS pair_limit
    opened_row =
        let c = pair_count b' in
        let m : length (book_of b').pairs ≡ length (book_of b).pairs + 1 = ap length opened_pairs ∙ length-append (book_of b).pairs (empty key ∷ []) in
        let h = here in
        omega arith

    opened_pair : pair_at b' n ≡ empty key
    opened_pair =
        sym (pair_at_lem b' n (empty key) opened_row)
        ∙ rw (opened_pairs, here) (get_or-append_seam (book_of b).pairs (empty key) [] (empty key))

    pub opened_there : PairThere b key n b'
    opened_there =
        record {
          count = ap length w.cells_are ∙ length-row PAIRS n _ b ∙ w.cells.count;
          row = opened_row;
          rest = opened_book ∙ ap (λ (x : List Pair). with_pairs (book_of b) x) (sym opened_pairs);
          pair = λ side mw.
              rw (opened_pairs, opened_pair, here) (set-append_seam (book_of b).pairs (empty key) [] (with_side side mw (empty key)))
              ∙ sym (with_pair_lem _ _ _ side mw (book_of b).pairs ∙ changed_new (is_pair key) (with_side side mw) _ (book_of b).pairs (standing_none b key e).past);
        }
