-- The test for an entry that is taken, over the rows of its table, as the rules say it over the entries.
-- Assumes nothing.
use Rattle.std.proofs.Common.{ℕ, ◌≡◌, Bool, false, ◌||◌, List, [], ◌∷◌, map, sym, ap, ◌∙◌}
use Rattle.std.specs.List.{list_any}

-- a rule that asks whether one of a list passes the test
module _ {A : Type 0} (read : List ℕ → A) (t : A → Bool) (taken : List A → Bool) (none : taken [] ≡ false) (one : (x : A) (xs : List A) → taken (x ∷ xs) ≡ (t x || taken xs)) where
  taken_rows : (rows : List (List ℕ)) → list_any (λ row. t (read row)) rows ≡ taken (map read rows)
  taken_rows [] = sym none
  taken_rows (row ∷ rows) = ap (λ (r : Bool). t (read row) || r) (taken_rows rows) ∙ sym (one (read row) (map read rows))

  pub taken_any : {xs : List A} {rows all : List (List ℕ)} → xs ≡ map read all → rows ≡ all → list_any (λ row. t (read row)) rows ≡ taken xs
  taken_any {xs} {rows} {all} e q = rw (e, q) (taken_rows all)
