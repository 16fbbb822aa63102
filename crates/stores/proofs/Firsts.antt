-- The first entry of a table that passes a test: the search for it, and the table with that entry changed or else a new one added.
-- Assumes nothing.
use Rattle.std.specs.Prelude.{Some, None}
use Rattle.std.specs.List.{position, position_or_len}
use Rattle.std.proofs.lemmas.List.{length-map}
use Rattle.std.proofs.lemmas.List.Recursion.{is_position_or_len}
use Rattle.std.proofs.lemmas.Grind.{common_steps}
use Prim.Native.Nat.{ℕ, suc, ◌+◌, ◌≤◌, ◌<◌}
use mathlib.Core.Path.{◌≡◌, refl, sym, ap, ◌∙◌}
use mathlib.Core.Logic.{◌≢◌}
use mathlib.Core.Bool.{Bool, true, false, cond, ◌||◌, not}
use mathlib.Core.List.{List, [], ◌∷◌, ◌++◌, map}
use native.Mathlib.Omega.{arith}
use native.Mathlib.Nat.{zero-add}
use borrow.Author.Tests.{lt-ltb}
use lib.Dec.{ltb, leb-suc-suc}
use lib.ListN.{get_or, set, length}
use Rattle.rules.specs.Book.{Right}
use Rattle.rules.specs.Bids.{wrap_added, is_right_of, right_taken, added_right, right_from}
use Rattle.cells.specs.Loops.{rows}
use Rattle.cells.specs.View.{cell, counted}
use Rattle.cells.proofs.Rows.{rows-set}

module _ {A : Type 0} (t : A → Bool) where
  unfoldable pub place_of : List A → ℕ
  place_of [] = 0
  place_of (x ∷ xs) = cond (t x) 0 (suc (place_of xs))

  pub place_le : (xs : List A) → place_of xs ≤ length xs
  unfolding place_of
  place_le [] = omega arith
  place_le (x ∷ xs) = go (t x) (place_le xs)
    where
      go : (s : Bool) → place_of xs ≤ length xs → cond s 0 (suc (place_of xs)) ≤ suc (length xs)
      go true e = omega arith
      go false e = omega arith

  -- an entry passes the test
  unfoldable pub some_of : List A → Bool
  some_of [] = false
  some_of (x ∷ xs) = t x || some_of xs

  pub some_is : (xs : List A) → some_of xs ≡ ltb (place_of xs) (length xs)
  unfolding some_of place_of
  some_is [] = refl
  some_is (x ∷ xs) = go (t x) (some_is xs)
    where
      go : (s : Bool) → some_of xs ≡ ltb (place_of xs) (length xs) → (s || some_of xs) ≡ ltb (cond s 0 (suc (place_of xs))) (suc (length xs))
      go true e = sym (lt-ltb 0 (suc (length xs)) (omega arith))
      go false e = e ∙ sym (leb-suc-suc (suc (place_of xs)) (length xs))

  unfoldable pub changed : (A → A) → A → List A → List A
  changed g n [] = n ∷ []
  changed g n (x ∷ xs) = cond (t x) (g x ∷ xs) (x ∷ changed g n xs)

  pub changed_there : (g : A → A) (n z : A) (xs : List A) → place_of xs < length xs → changed g n xs ≡ set xs (place_of xs) (g (get_or xs (place_of xs) z))
  unfolding place_of changed
  changed_there g n z [] l = absurd (omega arith)
  changed_there g n z (x ∷ xs) l = go (t x) refl (changed_there g n z xs)
    where
      go : (s : Bool) → t x ≡ s → (place_of xs < length xs → changed g n xs ≡ set xs (place_of xs) (g (get_or xs (place_of xs) z)))
          → cond s (g x ∷ xs) (x ∷ changed g n xs) ≡ set (x ∷ xs) (cond s 0 (suc (place_of xs))) (g (get_or (x ∷ xs) (cond s 0 (suc (place_of xs))) z))
      go true e ih = refl
      go false e ih = let m : suc (place_of xs) < suc (length xs) = rw e at l in ap (λ (r : List A). x ∷ r) (ih (omega arith))

  pub changed_new : (g : A → A) (n : A) (xs : List A) → length xs ≤ place_of xs → changed g n xs ≡ xs ++ (n ∷ [])
  unfolding place_of changed
  changed_new g n [] l = refl
  changed_new g n (x ∷ xs) l = go (t x) refl (changed_new g n xs)
    where
      go : (s : Bool) → t x ≡ s → (length xs ≤ place_of xs → changed g n xs ≡ xs ++ (n ∷ [])) → cond s (g x ∷ xs) (x ∷ changed g n xs) ≡ (x ∷ xs) ++ (n ∷ [])
      go true e ih = let m : suc (length xs) ≤ 0 = rw e at l in absurd (omega arith)
      go false e ih = let m : suc (length xs) ≤ suc (place_of xs) = rw e at l in ap (λ (r : List A). x ∷ r) (ih (omega arith))

-- ---- the library's search

module _ {A B : Type 0} (t : B → Bool) (h : A → B) where
  place_in : (xs : List A) → position_or_len (λ x. t (h x)) xs ≡ position_or_len t (map h xs)
  place_in [] = refl
  place_in (x ∷ xs) = ap (λ (n : ℕ). cond (not (t (h x))) (1 + n) 0) (place_in xs)

  -- the position among the rows of a table is that among its entries
  pub position_in : (xs : List A) → position (λ x. t (h x)) xs ≡ position t (map h xs)
  position_in xs = rw (place_in xs, length-map xs h) refl

module _ {A : Type 0} (t : A → Bool) (xs : List A) where
  place_is : place_of t xs ≡ position_or_len t xs
  unfolding place_of
  place_is = is_position_or_len (place_of t) t refl (λ y ys. ap (cond (t y) 0) (omega arith)) xs

  pub position_is : position t xs ≡ cond (ltb (place_of t xs) (length xs)) (Some (place_of t xs)) None
  position_is = rw place_is refl

  pub position_at : (k : ℕ) → position t xs ≡ Some k → (k ≡ place_of t xs) × (k < length xs)
  position_at k e = rw place_is (grind (arith, common_steps))

  pub position_none : position t xs ≡ None → length xs ≤ place_of t xs
  position_none e = rw place_is (grind (arith, common_steps))

-- one row of a table changed
pub table_set : {A : Type 0} (f : List ℕ → ℕ → A) (at limit : ℕ) (b b' : List ℕ) (i : ℕ) → cell b' at ≡ cell b at → i < counted b at limit
    → ((j : ℕ) → j ≢ i → f b' j ≡ f b j) → rows (f b') (counted b' at limit) 0 ≡ set (rows (f b) (counted b at limit) 0) i (f b' i)
table_set f at limit b b' i e l same =
    rw e (rows-set (f b) (f b') (counted b at limit) 0 i l (λ j q. same j (λ r. q (omega arith))) ∙ rw (zero-add i))

-- ---- the rules' own searches and changes are these

pub right_from_lem : (h d s : ℕ) (rs : List Right) → right_from h d s rs ≡ place_of (is_right_of h d s) rs
unfolding right_from place_of
right_from_lem h d s [] = refl
right_from_lem h d s (x ∷ rs) = ap (λ (n : ℕ). cond (is_right_of h d s x) 0 (suc n)) (right_from_lem h d s rs)

pub right_taken_lem : (h d s : ℕ) (rs : List Right) → right_taken h d s rs ≡ some_of (is_right_of h d s) rs
unfolding right_taken some_of
right_taken_lem h d s [] = refl
right_taken_lem h d s (x ∷ rs) = ap (λ (p : Bool). is_right_of h d s x || p) (right_taken_lem h d s rs)

abbrev pub raised : List ℕ → Right → Right
raised mw x = record { holder = x.holder; direction = x.direction; session = x.session; mw = wrap_added x.mw mw }

pub added_right_lem : (h d s : ℕ) (mw : List ℕ) (rs : List Right)
    → added_right h d s mw rs ≡ changed (is_right_of h d s) (raised mw) (record { holder = h; direction = d; session = s; mw = mw }) rs
unfolding added_right changed
added_right_lem h d s mw [] = refl
added_right_lem h d s mw (x ∷ rs) = ap (λ (l : List Right). cond (is_right_of h d s x) (raised mw x ∷ rs) (x ∷ l)) (added_right_lem h d s mw rs)
