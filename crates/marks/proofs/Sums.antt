-- The sums and the marks that the code makes are those of the rules.
-- Assumes nothing.
use Rattle.std.proofs.Common.{◌≡◌, ℕ, ◌+◌, ◌*◌, ◌≤◌, ◌<◌, cond, eqb, List, [], ◌∷◌, ◌++◌, map, length, get_or, take, refl, sym, ◌∙◌, arith, add-one}
use Rattle.std.proofs.Math.Seq.{take-suc}
use Rattle.std.proofs.Math.Nat.{add-zero}
use Rattle.std.proofs.lemmas.List.{map-append, take_all}
use mathlib.Core.Logic.{◌≢◌}
use borrow.Author.Tests.{eq-eqb, ne_eqb}
use Rattle.rules.specs.Basics.{five}
use Rattle.rules.specs.Book.{Right, Pair, right, pair_limit}
use Rattle.rules.specs.Nominations.{side_of, side_total, above_right, marks}
use Rattle.cells.specs.Layout.{PAIRS}
use Rattle.cells.specs.View.{rows_in, pair_read, book_of}
use Rattle.cells.proofs.Entries.{pairs_are}
use Rattle.totals.specs.Total.{Most, sum_in}
use Rattle.totals.proofs.Sums.{most_none, most_fits, most_plus}
use Rattle.marks.specs.Totals.{totals_of, marks_of}

-- ---- the totals

-- the totals of the first i rows
pub record Summed (r side : ℕ) (rows : List (List ℕ)) (i : ℕ) (totals : List ℕ) : Type 0 where
  pub within : i ≤ length rows
  pub totals_are : totals ≡ totals_of r side (map pair_read (take i rows))
  pub most : Most (i * 4294967295) totals

pub none_summed : (r side : ℕ) (rows : List (List ℕ)) → Summed r side rows 0 (0 ∷ 0 ∷ 0 ∷ 0 ∷ 0 ∷ [])
unfolding side_total
none_summed r side rows =
    record {
      within = omega arith;
      totals_are = refl;
      most = most_none;
    }

one_more : (r side k : ℕ) (ps : List Pair) (p : Pair) → side_total r side k (ps ++ (p ∷ [])) ≡ side_total r side k ps + cond (eqb p.right r) (get_or (side_of side p) k 0) 0
unfolding side_total
one_more r side k [] p = omega arith
one_more r side k (x ∷ ps) p = omega (arith, one_more r side k ps p)

module _ (r side : ℕ) (rows : List (List ℕ)) (i : ℕ) (totals : List ℕ) (h : i < length rows) (s : Summed r side rows i totals) where
  abbrev row : List ℕ
  row = get_or rows i []

  abbrev passed : List Pair
  passed = map pair_read (take i rows)

  next : map pair_read (take (i + 1) rows) ≡ passed ++ (pair_read row ∷ [])
  next = rw (add-one i, take-suc rows i [] h, map-append pair_read (take i rows) (row ∷ [])) refl

  -- a row of another right
  pub none_added : get_or row 0 0 ≢ r → Summed r side rows (i + 1) totals
  none_added e =
      let same : (k : ℕ) → side_total r side k passed ≡ side_total r side k (passed ++ (pair_read row ∷ [])) =
      λ k. sym (one_more r side k passed (pair_read row) ∙ rw (ne_eqb (get_or row 0 0) r e) (add-zero (side_total r side k passed))) in
      record {
        within = omega arith;
        totals_are = s.totals_are ∙ rw (next, same 0, same 1, same 2, same 3, same 4);
        most = most_fits (i * 4294967295) _ totals s.most (omega arith);
      }

  -- a row of the right
  pub share_added : get_or row 0 0 ≡ r → (mw after : List ℕ) → mw ≡ side_of side (pair_read row) → (after ≡ five (sum_in totals mw)) × Most 4294967295 mw → Summed r side rows (i + 1) after
  share_added e mw after is a =
      let more : (k : ℕ) → side_total r side k passed + get_or (side_of side (pair_read row)) k 0 ≡ side_total r side k (passed ++ (pair_read row ∷ [])) =
      λ k. sym (one_more r side k passed (pair_read row) ∙ rw (eq-eqb (get_or row 0 0) r e) refl) in
      record {
        within = omega arith;
        totals_are = a.0 ∙ rw (s.totals_are, is, next, more 0, more 1, more 2, more 3, more 4);
        most = most_plus i totals mw after s.most a;
      }

-- the totals of all rows
pub all_summed : (b : List ℕ) (r side i : ℕ) {rows : List (List ℕ)} (totals : List ℕ) → rows ≡ rows_in b PAIRS 13 pair_limit → length rows ≤ i → Summed r side rows i totals → totals ≡ totals_of r side (book_of b).pairs
all_summed b r side i {rows} totals e h s = s.totals_are ∙ rw (take_all i rows h, e, pairs_are b) refl

-- ---- the marks

-- the marks of the rules, by the MW of the right
pub marks_are : (rs : List Right) (ps : List Pair) (r side : ℕ) → marks rs ps r side ≡ marks_of (right rs r).mw r side ps
unfolding marks above_right marks_of
marks_are rs ps r side = refl
