-- The table of pairs: its searches and changes by the rules, a pair more, and a pair with one side replaced.
-- Assumes nothing.
use Prim.Native.Nat.{ℕ, suc, ◌+◌, ◌*◌, ◌-◌, ◌≤◌, ◌<◌}
use mathlib.Core.Path.{◌≡◌, refl, ap, subst, ◌∙◌}
use mathlib.Core.Logic.{◌≢◌}
use mathlib.Core.Bool.{Bool, true, false, cond, ◌||◌}
use mathlib.Core.List.{List, [], ◌∷◌, ◌++◌}
use native.Mathlib.Omega.{arith}
use native.Mathlib.Nat.{add-zero, zero-add}
use borrow.Author.Tests.{eqb-true, eqb-false}
use lib.Dec.{eqb}
use lib.ListN.{get_or, set, length, length-append, get_or-append}
use lib.Seq.{sets, get_or-append-add}
use Rattle.rules.specs.Book.{Pair, pair_limit}
use Rattle.rules.specs.Nominations.{is_pair_of, pair_taken, empty_pair, pair_of, with_side, with_pair}
use Rattle.cells.specs.Layout.{CELLS, PAIRS}
use Rattle.cells.specs.View.{cell, part, counted, pair_at, pairs_in, book_of}
use Rattle.stores.specs.Stores.{with_row}
use Rattle.cells.specs.Updates.{with_pairs}
use Rattle.cells.proofs.Regions.{only_pairs, part_agree}
use Rattle.stores.proofs.Tables.{part_own, part_written, row_cell, row_within, table_more, sets_other, sets_at}
use Rattle.stores.proofs.Firsts.{place_of, some_of, changed, table_set}

-- ---- the rules' own searches and changes

pub pair_taken_lem : (r o i : ℕ) (ps : List Pair) → pair_taken r o i ps ≡ some_of (is_pair_of r o i) ps
unfolding pair_taken some_of
pair_taken_lem r o i [] = refl
pair_taken_lem r o i (x ∷ ps) = ap (λ (p : Bool). is_pair_of r o i x || p) (pair_taken_lem r o i ps)

pub pair_from : (r o i : ℕ) (ps : List Pair) → pair_of r o i ps ≡ get_or ps (place_of (is_pair_of r o i) ps) (empty_pair r o i)
unfolding pair_of place_of
pair_from r o i [] = refl
pair_from r o i (x ∷ ps) = go (is_pair_of r o i x) (pair_from r o i ps)
  where
    go : (t : Bool) → pair_of r o i ps ≡ get_or ps (place_of (is_pair_of r o i) ps) (empty_pair r o i)
        → cond t x (pair_of r o i ps) ≡ get_or (x ∷ ps) (cond t 0 (suc (place_of (is_pair_of r o i) ps))) (empty_pair r o i)
    go true e = refl
    go false e = e

pub with_pair_lem : (r o i side : ℕ) (mw : List ℕ) (ps : List Pair)
    → with_pair r o i side mw ps ≡ changed (is_pair_of r o i) (with_side side mw) (with_side side mw (empty_pair r o i)) ps
unfolding with_pair changed
with_pair_lem r o i side mw [] = refl
with_pair_lem r o i side mw (x ∷ ps) = ap (λ (l : List Pair). cond (is_pair_of r o i x) (with_side side mw x ∷ ps) (x ∷ l)) (with_pair_lem r o i side mw ps)

-- ---- a row is read from its own cells

pub pair_own : (c c' : List ℕ) (i : ℕ) → ((k : ℕ) → k < 13 → cell c' (PAIRS + 1 + i * 13 + k) ≡ cell c (PAIRS + 1 + i * 13 + k)) → pair_at c' i ≡ pair_at c i
unfolding pair_at
pair_own c c' i h =
    let two : PAIRS + 1 + i * 13 + 1 ≡ PAIRS + 2 + i * 13 = omega arith in
    let three : PAIRS + 1 + i * 13 + 2 ≡ PAIRS + 3 + i * 13 = omega arith in
    let four : PAIRS + 1 + i * 13 + 3 ≡ PAIRS + 4 + i * 13 = omega arith in
    let nine : PAIRS + 1 + i * 13 + 8 ≡ PAIRS + 9 + i * 13 = omega arith in
    rw (rw add-zero at (h 0 (omega arith)), rw two at (h 1 (omega arith)), rw three at (h 2 (omega arith)), rw four at (part_own c c' (PAIRS + 1 + i * 13) 13 3 5 (omega arith) h), rw nine at (part_own c c' (PAIRS + 1 + i * 13) 13 8 5 (omega arith) h))

-- ---- a pair more

pub pair_same : {r r' o o' i i' : ℕ} {m m' n n' : List ℕ} → r ≡ r' → o ≡ o' → i ≡ i' → m ≡ m' → n ≡ n'
    → ◌≡◌ {A = Pair} (record { right = r; out = o; into = i; out_mw = m; into_mw = n }) (record { right = r'; out = o'; into = i'; out_mw = m'; into_mw = n' })
pair_same p q s t u = rw (p, q, s, t, u)

module _ (b : List ℕ) (n r o i : ℕ) (outs ins : List ℕ) (l : n < pair_limit) (u : length b ≡ CELLS) (few : length outs ≡ 5) (size : length ins ≡ 5) where
  abbrev entry : List ℕ
  entry = r ∷ o ∷ i ∷ (outs ++ ins)

  entry_size : length entry ≡ 13
  entry_size = let e = length-append outs ins in omega arith

  pair_here : pair_at (with_row PAIRS n entry b) n ≡ record { right = r; out = o; into = i; out_mw = outs; into_mw = ins }
  unfolding pair_at
  pair_here =
      let cells = row_cell PAIRS 13 pair_limit b n entry entry_size l (omega arith) in
      let two : PAIRS + 1 + n * 13 + 1 ≡ PAIRS + 2 + n * 13 = omega arith in
      let three : PAIRS + 1 + n * 13 + 2 ≡ PAIRS + 3 + n * 13 = omega arith in
      let four : PAIRS + 1 + n * 13 + 3 ≡ PAIRS + 4 + n * 13 = omega arith in
      let nine : PAIRS + 1 + n * 13 + 8 ≡ PAIRS + 9 + n * 13 = omega arith in
      pair_same
      (rw add-zero at (cells 0 (omega arith)))
      (rw two at (cells 1 (omega arith)))
      (rw three at (cells 2 (omega arith)))
      (rw four at (part_written (with_row PAIRS n entry b) (PAIRS + 1 + n * 13) 3 5 outs few (λ k m. cells (3 + k) (omega arith) ∙ three_on k m)))
      (rw nine at (part_written (with_row PAIRS n entry b) (PAIRS + 1 + n * 13) 8 5 ins size (λ k m. cells (8 + k) (omega arith) ∙ eight_on k)))
    where
      three_on : (k : ℕ) → k < 5 → get_or entry (3 + k) 0 ≡ get_or outs k 0
      three_on k m = let e : 3 + k ≡ suc (suc (suc k)) = omega arith in rw e (get_or-append outs ins 0 k (omega arith))

      eight_on : (k : ℕ) → get_or entry (8 + k) 0 ≡ get_or ins k 0
      eight_on k =
          let e : 8 + k ≡ suc (suc (suc (length outs + k))) = omega arith in
          rw e (get_or-append-add outs ins k 0)

  pub pair_more : counted b PAIRS pair_limit ≡ n
      → book_of (with_row PAIRS n entry b) ≡ with_pairs (book_of b) ((book_of b).pairs ++ (record { right = r; out = o; into = i; out_mw = outs; into_mw = ins } ∷ []))
  unfolding book_of pairs_in
  pair_more e =
      only_pairs b (with_row PAIRS n entry b) (row_within PAIRS 13 pair_limit b n entry entry_size l (omega arith) CELLS (omega arith))
      ∙ ap (λ (x : List Pair). with_pairs (book_of b) x)
      (table_more PAIRS 13 pair_limit b n entry entry_size l (omega arith) pair_at pair_own (record { right = r; out = o; into = i; out_mw = outs; into_mw = ins }) e pair_here)

-- ---- the five MW of one side replaced

module _ (b : List ℕ) (k side : ℕ) (mw : List ℕ) (l : k < pair_limit) (s : side ≤ 1) (u : length b ≡ CELLS) (size : length mw ≡ 5) where
  abbrev at : ℕ
  at = PAIRS + 4 + k * 13 + 5 * side

  abbrev made : List ℕ
  made = sets b at mw

  other : (x : ℕ) → ((j : ℕ) → j < 5 → x ≢ at + j) → cell made x ≡ cell b x
  other x h = sets_other mw b at x (λ j m. h j (omega arith))

  mw_here : part made at 5 ≡ mw
  mw_here = rw add-zero at (part_written made at 0 5 mw size (λ j m. rw (zero-add j) (sets_at mw b at j (omega arith) (omega arith))))

  mw_other : (x : ℕ) → ((i j : ℕ) → i < 5 → j < 5 → x + i ≢ at + j) → part made x 5 ≡ part b x 5
  mw_other x h = part_agree b made x 5 (λ y p q. other y (λ j m e. h (y - x) j (omega arith) m (omega arith)))

  side_here : pair_at made k ≡ with_side side mw (pair_at b k)
  unfolding pair_at with_side
  side_here = go (eqb side 0) refl
    where
      go : (t : Bool) → eqb side 0 ≡ t → pair_at made k ≡ with_side side mw (pair_at b k)
      go true e =
          let z : side ≡ 0 = eqb-true side 0 e in
          let p : at ≡ PAIRS + 4 + k * 13 = omega arith in
          rw e
          (pair_same
          (other (PAIRS + 1 + k * 13) (λ j m q. omega arith))
          (other (PAIRS + 2 + k * 13) (λ j m q. omega arith))
          (other (PAIRS + 3 + k * 13) (λ j m q. omega arith))
          (subst (λ (x : ℕ). part made x 5 ≡ mw) p mw_here)
          (mw_other (PAIRS + 9 + k * 13) (λ i j v w q. omega arith)))
      go false e =
          let z : side ≢ 0 = eqb-false side 0 e in
          let p : at ≡ PAIRS + 9 + k * 13 = omega arith in
          rw e
          (pair_same
          (other (PAIRS + 1 + k * 13) (λ j m q. omega arith))
          (other (PAIRS + 2 + k * 13) (λ j m q. omega arith))
          (other (PAIRS + 3 + k * 13) (λ j m q. omega arith))
          (mw_other (PAIRS + 4 + k * 13) (λ i j v w q. omega arith))
          (subst (λ (x : ℕ). part made x 5 ≡ mw) p mw_here))

  -- the row of the pair is the only one that changes
  pub side_replaced : k < counted b PAIRS pair_limit → book_of made ≡ with_pairs (book_of b) (set (book_of b).pairs k (with_side side mw (pair_at b k)))
  unfolding book_of pairs_in
  side_replaced m =
      only_pairs b made (record { below = λ x h. other x (λ j p e. omega arith); above = λ x h. other x (λ j p e. omega arith) })
      ∙ ap (λ (x : List Pair). with_pairs (book_of b) x)
      (table_set pair_at PAIRS pair_limit b made k (other PAIRS (λ j p e. omega arith)) m
      (λ j e. pair_own b made j (λ i p. other (PAIRS + 1 + j * 13 + i) (λ q r t. e (omega arith))))
      ∙ ap (λ (x : Pair). set (pairs_in b) k x) side_here)
