-- The pairs of a right, gathered row by row: their lower sides have the sums of the rules.
-- Assumes nothing.
use Rattle.std.proofs.Common.{◌≡◌, ℕ, ◌+◌, ◌≤◌, ◌<◌, cond, eqb, List, [], ◌∷◌, ◌++◌, map, length, length-append, get_or, take, refl, sym, ap, ◌∙◌, arith, add-one}
use Rattle.std.proofs.Math.Seq.{take-suc}
use Rattle.std.proofs.Math.Nat.{add-zero}
use Rattle.std.proofs.lemmas.List.{map-append, take_all}
use mathlib.Core.Logic.{◌≢◌}
use borrow.Author.Tests.{eq-eqb, ne_eqb}
use Rattle.rules.specs.Basics.{five}
use Rattle.rules.specs.Book.{Pair, pair_limit}
use Rattle.rules.specs.Nominations.{lower, lower_total}
use Rattle.cells.specs.Layout.{PAIRS}
use Rattle.cells.specs.View.{rows_in, pair_read}
use Rattle.cells.proofs.Entries.{few_rows, pairs_are}
use Rattle.totals.specs.declared.PairLower.{PairLower}
use Rattle.totals.specs.Total.{lower_of, sum_in, sum_of, totals}
use Rattle.totals.specs.Gathered.{Gathered, lower_in}
use Rattle.totals.proofs.Sums.{sum-snoc}

-- the pairs of right r among the first i rows
pub record Passed (r : ℕ) (rows : List (List ℕ)) (i : ℕ) (list : List PairLower) : Type 0 where
  pub few : length list ≤ i
  pub sums : totals list ≡ five (λ k. lower_total r k (map pair_read (take i rows)))

pub none_passed : (r : ℕ) (rows : List (List ℕ)) → Passed r rows 0 []
unfolding sum_of lower_total
none_passed r rows = record { few = omega arith; sums = refl }

one_more : (r k : ℕ) (ps : List Pair) (p : Pair) → lower_total r k (ps ++ (p ∷ [])) ≡ lower_total r k ps + cond (eqb p.right r) (lower k p) 0
unfolding lower_total
one_more r k [] p = omega arith
one_more r k (x ∷ ps) p = omega (arith, one_more r k ps p)

module _ (r : ℕ) (rows : List (List ℕ)) (i : ℕ) (list : List PairLower) (h : i < length rows) (s : Passed r rows i list) where
  abbrev row : List ℕ
  row = get_or rows i []

  abbrev passed : List Pair
  passed = map pair_read (take i rows)

  next : map pair_read (take (i + 1) rows) ≡ passed ++ (pair_read row ∷ [])
  next = rw (add-one i, take-suc rows i [] h, map-append pair_read (take i rows) (row ∷ [])) refl

  -- a row of another right
  pub none_added : get_or row 0 0 ≢ r → Passed r rows (i + 1) list
  none_added e =
      let same : (k : ℕ) → lower_total r k passed ≡ lower_total r k (passed ++ (pair_read row ∷ [])) =
      λ k. sym (one_more r k passed (pair_read row) ∙ rw (ne_eqb (get_or row 0 0) r e) (add-zero (lower_total r k passed))) in
      let few = s.few in
      record { few = omega arith; sums = s.sums ∙ rw (next, same 0, same 1, same 2, same 3, same 4) }

  -- a row of the right
  pub pair_added : get_or row 0 0 ≡ r → (p : PairLower) (after : List PairLower) → p.lower ≡ five (lower_in row) → after ≡ list ++ (p ∷ []) → Passed r rows (i + 1) after
  pair_added e p after q a =
      let more : (k : ℕ) → lower_total r k passed + lower_in row k ≡ lower_total r k (passed ++ (pair_read row ∷ [])) =
      λ k. sym (one_more r k passed (pair_read row) ∙ rw (eq-eqb (get_or row 0 0) r e) refl) in
      let here : (k : ℕ) → get_or (totals list) k 0 ≡ get_or (five (λ j. lower_total r j passed)) k 0 = λ k. ap (λ (l : List ℕ). get_or l k 0) s.sums in
      let of_pair : five (sum_in (totals list) p.lower) ≡ five (λ k. lower_total r k (map pair_read (take (i + 1) rows))) =
      rw (here 0, here 1, here 2, here 3, here 4, q, next) (rw (more 0, more 1, more 2, more 3, more 4) refl) in
      let few = s.few in
      let size : length after ≡ length list + 1 = rw a (length-append list (p ∷ [])) in
      record {
        few = omega arith;
        sums = rw (a, sum-snoc (lower_of 0) list p, sum-snoc (lower_of 1) list p, sum-snoc (lower_of 2) list p, sum-snoc (lower_of 3) list p, sum-snoc (lower_of 4) list p) of_pair;
      }

-- all rows
pub all_passed : (b : List ℕ) (r i : ℕ) {rows : List (List ℕ)} (list : List PairLower) → rows ≡ rows_in b PAIRS 13 pair_limit → length rows ≤ i → i ≤ length rows → Passed r rows i list → Gathered b r list
all_passed b r i {rows} list e h l s =
    let most : length rows ≤ pair_limit = rw e (few_rows b PAIRS 13 pair_limit) in
    let few = s.few in
    record { few = omega arith; sums = s.sums ∙ rw (take_all i rows h, e, pairs_are b) refl }
