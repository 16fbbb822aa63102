-- The count of the rights of a session, over the rows of the table.
-- Assumes nothing.
use Rattle.std.proofs.Common.{ℕ, ◌+◌, ◌≡◌, ◌≤◌, Bool, true, false, cond, List, [], ◌∷◌, map, length, refl, ◌∙◌, arith}
use Rattle.std.specs.List.{filter}
use Rattle.rules.specs.Book.{Right, right_limit}
use Rattle.rules.specs.Nominations.{count_rights}
use Rattle.cells.specs.Layout.{RIGHTS}
use Rattle.cells.specs.View.{rows_in, right_read, book_of}
use Rattle.cells.proofs.Entries.{rights_are}
use Rattle.cells.proofs.Views.{right_count}
use Rattle.matching.specs.Work.{is_of}

module _ (d s : ℕ) where
  abbrev pub passes : List ℕ → Bool
  passes row = is_of d s (right_read row)

  count_rows : (rows : List (List ℕ)) → length (filter passes rows) ≡ count_rights d s (map right_read rows)
  unfolding count_rights is_of
  count_rows [] = refl
  count_rows (row ∷ rows) = go (is_of d s (right_read row)) (count_rows rows)
    where
      go : (t : Bool) → length (filter passes rows) ≡ count_rights d s (map right_read rows)
          → length (cond t (row ∷ filter passes rows) (filter passes rows)) ≡ cond t 1 0 + count_rights d s (map right_read rows)
      go true e = omega arith
      go false e = omega arith

  pub count_is : (b : List ℕ) {rows : List (List ℕ)} → rows ≡ rows_in b RIGHTS 8 right_limit → length (filter passes rows) ≡ count_rights d s (book_of b).rights
  count_is b {rows} e = count_rows rows ∙ rw (e, rights_are b) refl

  count_le : (rs : List Right) → count_rights d s rs ≤ length rs
  unfolding count_rights is_of
  count_le [] = omega arith
  count_le (x ∷ xs) = go (is_of d s x) (count_le xs)
    where
      go : (t : Bool) → count_rights d s xs ≤ length xs → cond t 1 0 + count_rights d s xs ≤ length (x ∷ xs)
      go true e = omega arith
      go false e = omega arith

  pub count_few : (b : List ℕ) → count_rights d s (book_of b).rights ≤ right_limit
  count_few b = omega (arith, count_le (book_of b).rights, right_count b)
