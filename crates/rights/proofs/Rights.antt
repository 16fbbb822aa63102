-- The search for a standing right is the rules' search, a bid's entry is full where 13 applies, and its right, raised or new, is the right of the rules.
-- Assumes nothing.
use Rattle.std.specs.Prelude.{Option, Some, None, Result, Ok, Err}
use Rattle.std.specs.List.{position}
use Rattle.rules.specs.declared.Refusal.{Refusal}
use Rattle.rules.specs.declared.Refusal.TheVariants.{Full}
use Prim.Native.Nat.{ℕ, ◌+◌, ◌*◌, ◌≤◌, ◌<◌}
use mathlib.Core.Path.{◌≡◌, refl, sym, ap, ◌∙◌}
use mathlib.Core.Bool.{Bool, true, false, cond, ◌||◌, ◌&&◌, not}
use mathlib.Core.List.{List, [], ◌∷◌, ◌++◌}
use native.Mathlib.Omega.{arith}
use lib.Dec.{leb, ltb, eqb}
use lib.ListN.{length, set}
use borrow.Author.Tests.{leb-false}
use Rattle.rules.specs.Basics.{no_mw}
use Rattle.rules.specs.Book.{Book, Right, right_limit}
use Rattle.rules.specs.Bids.{is_right_of, right_taken, added_right, with_right, right_from, right_number}
use Rattle.cells.specs.Layout.{CELLS, RIGHTS}
use Rattle.cells.specs.View.{counted, rows_in, right_read, book_of}
use Rattle.stores.specs.Bids.{added_five}
use Rattle.cells.specs.Updates.{with_rights}
use Rattle.stores.proofs.Firsts.{place_of, place_le, some_is, changed_there, changed_new, position_in, position_is, position_at, position_none, right_from_lem, right_taken_lem, raised, added_right_lem}
use Rattle.stores.proofs.Tables.{right_more, length-row}
use Rattle.stores.proofs.Raised.{right_raised, length-five}
use Rattle.cells.proofs.Entries.{rights_are}
use Rattle.cells.proofs.Views.{right_count, right_at_lem}
use Rattle.tables.specs.declared.RightKey.{RightKey}
use Rattle.rights.specs.declared.RightOfBid.{RightOfBid}
use Rattle.rights.specs.Work.{standing_right, right_for, entry_of, entry_in, Enters, NewRight, Booked}

-- ---- the search

-- a right with the key
abbrev pub is_right : RightKey → Right → Bool
is_right key = is_right_of key.holder key.direction key.session.0

abbrev place : List ℕ → RightKey → ℕ
place b key = place_of (is_right key) (book_of b).rights

-- what the library's search over the rows finds
pub row_found : (b : List ℕ) (key : RightKey) {rs : List (List ℕ)} {f : Option ℕ} → rs ≡ rows_in b RIGHTS 8 right_limit → f ≡ position (λ row. is_right key (right_read row)) rs → f ≡ standing_right b key
unfolding standing_right
row_found b key {rs} e q = q ∙ position_in (is_right key) right_read rs ∙ rw (e, rights_are b) refl

-- a standing right was found, or none
pub found_at : (b : List ℕ) (key : RightKey) (i : ℕ) → standing_right b key ≡ Some i → (i ≡ place b key) × (i < counted b RIGHTS right_limit)
unfolding standing_right
found_at b key i e = rw (← right_count b) (position_at (is_right key) (book_of b).rights i e)

found_none : (b : List ℕ) (key : RightKey) → standing_right b key ≡ None → length (book_of b).rights ≤ place b key
unfolding standing_right
found_none b key e = position_none (is_right key) (book_of b).rights e

-- it depends on the rights alone
standing_is : (b : List ℕ) (key : RightKey) → standing_right b key ≡ cond (ltb (place b key) (length (book_of b).rights)) (Some (place b key)) None
unfolding standing_right
standing_is b key = position_is (is_right key) (book_of b).rights

taken_is : (b : List ℕ) (key : RightKey) → right_taken key.holder key.direction key.session.0 (book_of b).rights ≡ ltb (place b key) (length (book_of b).rights)
taken_is b key = right_taken_lem _ _ _ (book_of b).rights ∙ some_is (is_right key) (book_of b).rights

-- ---- the entry

-- where 13 applies
abbrev pub IsFull : Book → RightOfBid → Bool
IsFull b x = leb right_limit (length b.rights) && (eqb x.model 1 || not (right_taken x.key.holder x.key.direction x.key.session.0 b.rights))

-- it is refused there
refused : Result (Option ℕ) Refusal → Bool
refused (Ok e) = false
refused (Err r) = true

full_is : (b : List ℕ) (x : RightOfBid) → refused (entry_in b x) ≡ IsFull (book_of b) x
unfolding entry_in right_for refused
full_is b x =
    rw (standing_is b x.key, taken_is b x.key, ← right_count b) (go (leb right_limit (length (book_of b).rights)) (eqb x.model 1) (ltb (place b x.key) (length (book_of b).rights)))
  where
    go : (p m t : Bool) → refused (cond p (entry_of (cond m None (cond t (Some (place b x.key)) None))) (Ok None)) ≡ (p && (m || not t))
    go false m t = refl
    go true true t = refl
    go true false true = refl
    go true false false = refl

pub full_refused : (b : List ℕ) (x : RightOfBid) {r : Refusal} → Err r ≡ entry_in b x → IsFull (book_of b) x ≡ true
unfolding refused
full_refused b x q = sym (full_is b x) ∙ ap refused (sym q)

pub full_passed : (b : List ℕ) (x : RightOfBid) {e : Option ℕ} → Ok e ≡ entry_in b x → IsFull (book_of b) x ≡ false
unfolding refused
full_passed b x q = sym (full_is b x) ∙ ap refused (sym q)

-- the refusal is 13's
pub refused_full : (b : List ℕ) (x : RightOfBid) {r : Refusal} → Err r ≡ entry_in b x → r ≡ Full
unfolding entry_in
refused_full b x {r} q = go (leb right_limit (counted b RIGHTS right_limit)) (right_for b x) q
  where
    go : (t : Bool) (f : Option ℕ) → Err r ≡ cond t (entry_of f) (Ok None) → r ≡ Full
    go true (Some j) z = absurd (let n : ◌≡◌ {A = ℕ} 0 1 = cc in omega arith)
    go true None z = cc
    go false f z = absurd (let n : ◌≡◌ {A = ℕ} 0 1 = cc in omega arith)

-- it depends on the rights alone
pub enters_still : {b b' : List ℕ} {x : RightOfBid} {e : Option ℕ} → (book_of b').rights ≡ (book_of b).rights → Enters b x e → Enters b' x e
unfolding entry_in right_for
enters_still {b} {b'} {x} r k =
    record { entry_is = k.entry_is ∙ rw (standing_is b x.key, standing_is b' x.key, ← right_count b, ← right_count b', r) }

module _ {b : List ℕ} {x : RightOfBid} {e : Option ℕ} (k : Enters b x e) where
  -- the right that the verdict found
  pub entered_at : (i : ℕ) → e ≡ Some i → right_for b x ≡ Some i
  unfolding entry_in
  entered_at i q = go (leb right_limit (counted b RIGHTS right_limit)) (right_for b x) (let there = rw q at k.entry_is in sym there)
    where
      go : (t : Bool) (f : Option ℕ) → cond t (entry_of f) (Ok None) ≡ Ok (Some i) → f ≡ Some i
      go true (Some j) z = cc
      go true None z = absurd (let n : ◌≡◌ {A = ℕ} 0 1 = cc in omega arith)
      go false f z = absurd (let n : ◌≡◌ {A = ℕ} 0 1 = cc in omega arith)

  -- a bid that no right takes has room for a new one
  pub has_room : right_for b x ≡ None → counted b RIGHTS right_limit < right_limit
  unfolding entry_in
  has_room n = go (leb right_limit (counted b RIGHTS right_limit)) refl
    where
      go : (t : Bool) → leb right_limit (counted b RIGHTS right_limit) ≡ t → counted b RIGHTS right_limit < right_limit
      go true t = absurd (let z : ◌≡◌ {A = ℕ} 0 1 = (let q = rw (t, n) at k.entry_is in cc) in omega arith)
      go false t = leb-false right_limit (counted b RIGHTS right_limit) t

-- ---- the right that takes the MW

module _ (b : List ℕ) (x : RightOfBid) (i : ℕ) (e : right_for b x ≡ Some i) where
  stands : (eqb x.model 1 ≡ false) × (standing_right b x.key ≡ Some i)
  unfolding right_for
  stands = go (eqb x.model 1) e
    where
      go : (t : Bool) → cond t None (standing_right b x.key) ≡ Some i → (t ≡ false) × (standing_right b x.key ≡ Some i)
      go true z = absurd (let n : ◌≡◌ {A = ℕ} 0 1 = cc in omega arith)
      go false z = (refl, z)

  pub below : i < counted b RIGHTS right_limit
  below = (found_at b x.key i stands.1).1

-- ---- the right of a granted bid

module _ (b : List ℕ) (x : RightOfBid) (mw : List ℕ) where
  abbrev new : Right
  new = record { holder = x.key.holder; direction = x.key.direction; session = x.key.session.0; mw = mw }

  -- where no right takes the MW
  module _ (n : right_for b x ≡ None) where
    new_right : with_right x.model x.key.holder x.key.direction x.key.session.0 mw (book_of b).rights ≡ (book_of b).rights ++ (new ∷ [])
    unfolding with_right right_for
    new_right = go (eqb x.model 1) n
      where
        go : (t : Bool) → cond t None (standing_right b x.key) ≡ None → cond t ((book_of b).rights ++ (new ∷ [])) (added_right x.key.holder x.key.direction x.key.session.0 mw (book_of b).rights) ≡ (book_of b).rights ++ (new ∷ [])
        go true e = refl
        go false e = added_right_lem _ _ _ mw (book_of b).rights ∙ changed_new (is_right x.key) (raised mw) new (book_of b).rights (found_none b x.key e)

    new_number : right_number x.model x.key.holder x.key.direction x.key.session.0 (book_of b).rights ≡ length (book_of b).rights
    unfolding right_number right_for
    new_number = go (eqb x.model 1) n
      where
        go : (t : Bool) → cond t None (standing_right b x.key) ≡ None → cond t (length (book_of b).rights) (right_from x.key.holder x.key.direction x.key.session.0 (book_of b).rights) ≡ length (book_of b).rights
        go true e = refl
        go false e =
            let l = found_none b x.key e in
            let q = place_le (is_right x.key) (book_of b).rights in
            right_from_lem _ _ _ (book_of b).rights ∙ omega arith

    pub opened_books : (b' : List ℕ) (i : ℕ) → counted b RIGHTS right_limit < right_limit → NewRight b x.key mw i b' → Booked b x mw i b'
    opened_books b' i l o =
        let m : i < right_limit = rw o.number_is l in
        record {
          count = ap length o.cells_are ∙ length-row RIGHTS i (x.key.holder ∷ x.key.direction ∷ x.key.session.0 ∷ mw) b ∙ o.cells.count;
          number_is = o.number_is ∙ sym (right_count b) ∙ sym new_number;
          book_is =
              ap book_of o.cells_are
              ∙ right_more b i _ _ _ mw o.bytes m o.cells.count o.mw_five (sym o.number_is)
              ∙ ap (λ (rs : List Right). with_rights (book_of b) rs) (sym new_right);
        }

  -- where right i takes them
  module _ (i : ℕ) (e : right_for b x ≡ Some i) where
    pub raised_books : {b' : List ℕ} {at : ℕ} → length b ≡ CELLS → length mw ≡ 5 → b' ≡ added_five at mw b → at ≡ RIGHTS + 4 + i * 8 → Booked b x mw i b'
    unfolding with_right right_number
    raised_books u size cells_are at_is =
        let w = stands b x i e in
        let p = (found_at b x.key i w.1).0 in
        let q = below b x i e in
        let l : i < length (book_of b).rights = rw (right_count b) q in
        rw (cells_are, at_is) (record {
          count = length-five (RIGHTS + 4 + i * 8) mw b ∙ u;
          number_is = rw w.0 (p ∙ sym (right_from_lem _ _ _ (book_of b).rights));
          book_is =
              right_raised b i mw (omega arith) u size q
              ∙ rw w.0
              (ap (λ (rs : List Right). with_rights (book_of b) rs)
              (sym (added_right_lem _ _ _ mw (book_of b).rights
              ∙ changed_there (is_right x.key) (raised mw) new (record { holder = 0; direction = 0; session = 0; mw = no_mw }) (book_of b).rights (rw (← p) l)
              ∙ rw (← p) (ap (λ (x : Right). set (book_of b).rights i (raised mw x)) (right_at_lem b i q)))));
        })
