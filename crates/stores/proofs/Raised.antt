-- A standing right with the five MW of a bid added.
-- Assumes nothing.
use Prim.Native.Nat.{ℕ, zero, suc, ◌+◌, ◌*◌, ◌%◌, ◌≤◌, ◌<◌}
use mathlib.Core.Path.{◌≡◌, refl, sym, ap, ◌∙◌}
use mathlib.Core.Logic.{◌≢◌}
use mathlib.Core.List.{List, [], ◌∷◌}
use native.Mathlib.Omega.{arith}
use lib.ListN.{get_or, set, length, length-set}
use lib.Seq.{get_or-set_same, get_or-set_other, ext_get_or}
use Rattle.rules.specs.Book.{Right, right_limit}
use Rattle.rules.specs.Bids.{cell_values, wrap_added}
use Rattle.cells.specs.Layout.{CELLS, RIGHTS}
use Rattle.cells.specs.View.{cell, part, counted, right_at, rights_in, book_of}
use Rattle.stores.specs.Bids.{added_next, added_five}
use Rattle.stores.proofs.Repeats.{repeated_same, repeated_once}
use Rattle.cells.proofs.Regions.{only_rights}
use Rattle.cells.specs.Updates.{with_rights}
use Rattle.cells.proofs.Views.{part_at, part_length}
use Rattle.stores.proofs.Tables.{right_own, right_same}
use Rattle.stores.proofs.Firsts.{raised, table_set}

-- ---- the rule's sum

length-wrap : (xs ys : List ℕ) (n : ℕ) → length xs ≡ n → length ys ≡ n → length (wrap_added xs ys) ≡ n
unfolding wrap_added
length-wrap [] ys n p q = q
length-wrap (x ∷ xs) [] n p q = p
length-wrap (x ∷ xs) (y ∷ ys) zero p q = absurd (omega arith)
length-wrap (x ∷ xs) (y ∷ ys) (suc n) p q = ap suc (length-wrap xs ys n (omega arith) (omega arith))

get_or-wrap : (xs ys : List ℕ) (k : ℕ) → k < length xs → k < length ys → get_or (wrap_added xs ys) k 0 ≡ (get_or xs k 0 + get_or ys k 0) % cell_values
unfolding wrap_added
get_or-wrap [] ys k p q = absurd (omega arith)
get_or-wrap (x ∷ xs) [] k p q = absurd (omega arith)
get_or-wrap (x ∷ xs) (y ∷ ys) zero p q = refl
get_or-wrap (x ∷ xs) (y ∷ ys) (suc k) p q = get_or-wrap xs ys k (omega arith) (omega arith)

-- ---- five cells raised

five_other : (at : ℕ) (mw b : List ℕ) (x : ℕ) → ((k : ℕ) → k < 5 → x ≢ at + k) → cell (added_five at mw b) x ≡ cell b x
unfolding added_five added_next
five_other at mw b x h =
    repeated_same (λ (y : List ℕ). cell y x) (added_next at mw) 5 0 b (λ i l u y. get_or-set_other y (at + i) x _ 0 (h i (omega arith)))

five_at : (at : ℕ) (mw b : List ℕ) (k : ℕ) → k < 5 → at + 5 ≤ length b → cell (added_five at mw b) (at + k) ≡ (cell b (at + k) + get_or mw k 0) % cell_values
unfolding added_five added_next
five_at at mw b k h u =
    repeated_once (λ (y : List ℕ). cell y (at + k)) (added_next at mw) (λ (y : List ℕ). at + 5 ≤ length y) (λ (v : ℕ). (v + get_or mw k 0) % cell_values) k 5 0 b
    (λ i y p. simp length-set p)
    (λ y p. get_or-set_same y (at + k) _ 0 (omega arith))
    (λ i a c e y. get_or-set_other y (at + i) (at + k) _ 0 (λ q. e (omega arith)))
    u (omega arith) (omega arith)

pub length-five : (at : ℕ) (mw b : List ℕ) → length (added_five at mw b) ≡ length b
unfolding added_five added_next
length-five at mw b = repeated_same length (added_next at mw) 5 0 b (λ k l u y. length-set y (at + k) _)

module _ (b : List ℕ) (i : ℕ) (mw : List ℕ) (l : i < right_limit) (u : length b ≡ CELLS) (size : length mw ≡ 5) where
  abbrev at : ℕ
  at = RIGHTS + 4 + i * 8

  abbrev made : List ℕ
  made = added_five at mw b

  other : (x : ℕ) → ((k : ℕ) → k < 5 → x ≢ at + k) → cell made x ≡ cell b x
  other = five_other at mw b

  mw_here : part made at 5 ≡ wrap_added (part b at 5) mw
  mw_here =
      ext_get_or 0 (part made at 5) (wrap_added (part b at 5) mw) (part_length made at 5 ∙ sym (length-wrap (part b at 5) mw 5 (part_length b at 5) size))
      (λ k m.
      let v : k < 5 = rw (part_length made at 5) at m in
      let w : k < length (part b at 5) = rw (part_length b at 5) v in
      part_at made at 5 k v
      ∙ five_at at mw b k v (omega arith)
      ∙ sym (get_or-wrap (part b at 5) mw k w (omega arith) ∙ rw (part_at b at 5 k v)))

  raised_here : right_at made i ≡ raised mw (right_at b i)
  unfolding right_at
  raised_here =
      right_same
      (ap (λ (v : ℕ). v % 256) (other (RIGHTS + 1 + i * 8) (λ k m e. omega arith)))
      (ap (λ (v : ℕ). v % 256) (other (RIGHTS + 2 + i * 8) (λ k m e. omega arith)))
      (ap (λ (v : ℕ). v % 256) (other (RIGHTS + 3 + i * 8) (λ k m e. omega arith)))
      mw_here

  -- the row of the right is the only one that changes
  pub right_raised : i < counted b RIGHTS right_limit → book_of made ≡ with_rights (book_of b) (set (book_of b).rights i (raised mw (right_at b i)))
  unfolding book_of rights_in
  right_raised m =
      only_rights b made (record { below = λ x h. other x (λ k p e. omega arith); above = λ x h. other x (λ k p e. omega arith) })
      ∙ ap (λ (x : List Right). with_rights (book_of b) x)
      (table_set right_at RIGHTS right_limit b made i (other RIGHTS (λ k p e. omega arith)) m
      (λ j e. right_own b made j (λ k p. other (RIGHTS + 1 + j * 8 + k) (λ q r s. e (omega arith))))
      ∙ ap (λ (x : Right). set (rights_in b) i x) raised_here)
