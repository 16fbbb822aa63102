-- The granted MW after a bid's stores are those of the rule.
-- Assumes nothing.
use Prim.Native.Nat.{ℕ, zero, suc, ◌+◌, ◌-◌, ◌/◌, ◌%◌, ◌^◌, ◌≤◌, ◌<◌}
use mathlib.Core.Path.{◌≡◌, refl, sym, ap, ◌∙◌}
use mathlib.Core.Logic.{◌≢◌}
use mathlib.Core.Bool.{Bool, true, false, cond}
use mathlib.Core.List.{List, [], ◌∷◌}
use native.Mathlib.Omega.{arith}
use native.Mathlib.Nat.{zero-div, add-zero, zero-add, mod-eq_of_lt}
use native.Mathlib.Decide.{ℕ_discrete, dec_lt, dec_le}
use borrow.Author.Tests.{lt-ltb, le-ltb, le-leb, lt-leb, eq-eqb, ne_eqb}
use lib.Dec.{eqb}
use lib.ListN.{get_or, set, length, length-set, get_or-eq_default}
use lib.Seq.{get_or-set_same, get_or-set_other, ext_get_or}
use Rattle.rules.specs.Basics.{bit, mw_at}
use Rattle.rules.specs.Book.{place, left_at, holds, direction_limit, profile_limit}
use Rattle.rules.specs.Bids.{share, with_bid, is_short, shortage}
use Rattle.rules.proofs.Shortages.{bid_fits}
use Rattle.cells.specs.Layout.{CELLS, PROFILES, OFFERED, GRANTED, MATCHED}
use Rattle.cells.specs.Loops.{repeated}
use Rattle.cells.specs.View.{Cells, cell, part, counted, profiles_in, granted_in, book_of}
use Rattle.stores.specs.Bids.{added_cell, granted_profile, granted_hour, granted_next, granted_hours, with_bid_mw}
use Rattle.cells.proofs.Regions.{only_granted}
use Rattle.cells.specs.Updates.{with_granted}
use Rattle.cells.proofs.Views.{part_at, part_length}
use Rattle.cells.proofs.Views.{left_at_lem}
use Rattle.stores.proofs.Repeats.{repeated_same, repeated_once, repeated_keeps}

-- what the stores keep: the maps, the count of cells, their range
record Keeps (maps : List ℕ) (n : ℕ) (y : List ℕ) : Type 0 where
  map_at_lem : (p : ℕ) → p < n → cell y ((PROFILES + 1) + p) ≡ get_or maps p 0
  cells : Cells y

module _ (maps : List ℕ) (n d i : ℕ) (few : n ≤ profile_limit) (size : length maps ≡ n) (dir : d < direction_limit) (in_table : i < 800) where
  abbrev l : ℕ
  l = i / 25

  abbrev h : ℕ
  h = 1 + i % 25

  -- a cell that was raised
  raised_here : (y : List ℕ) (mw : ℕ) → Keeps maps n y → cell (added_cell (GRANTED + i) mw y) (GRANTED + i) ≡ (cell y (GRANTED + i) + mw) % 2 ^ 32
  raised_here y mw k = get_or-set_same y (GRANTED + i) _ 0 (omega (arith, k.cells.count))

  raised_other : (y : List ℕ) (mw at : ℕ) → at ≢ GRANTED + i → cell (added_cell at mw y) (GRANTED + i) ≡ cell y (GRANTED + i)
  raised_other y mw at e = get_or-set_other y at (GRANTED + i) _ 0 (λ q. e (sym q))

  profile_other : (y : List ℕ) (H mw p : ℕ) → GRANTED + place (24 + p) H ≢ GRANTED + i → cell (granted_profile d H mw p y) (GRANTED + i) ≡ cell y (GRANTED + i)
  unfolding granted_profile
  profile_other y H mw p e = go (bit (cell y ((PROFILES + 1) + p)) d)
    where
      go : (t : Bool) → cell (cond t (added_cell (GRANTED + place (24 + p) H) mw y) y) (GRANTED + i) ≡ cell y (GRANTED + i)
      go true = raised_other y mw (GRANTED + place (24 + p) H) e
      go false = refl

  -- another hour
  hour_miss : (y : List ℕ) (H mw : ℕ) → 1 ≤ H → H ≤ 25 → H ≢ h → cell (granted_hour n d H mw y) (GRANTED + i) ≡ cell y (GRANTED + i)
  unfolding granted_hour
  hour_miss y H mw f g e =
      repeated_same (λ (x : List ℕ). cell x (GRANTED + i)) (granted_profile d H mw) n 0 (added_cell (GRANTED + place d H) mw y)
      (λ p a u x. profile_other x H mw p (λ q. e (omega arith)))
      ∙ raised_other y mw (GRANTED + place d H) (λ q. e (omega arith))

  -- ---- what the stores keep

  keeps_set : (y : List ℕ) (at v : ℕ) → GRANTED ≤ at → v < 2 ^ 32 → Keeps maps n y → Keeps maps n (set y at v)
  keeps_set y at v a w k =
      record {
        map_at_lem = λ p u. get_or-set_other y at ((PROFILES + 1) + p) v 0 (λ e. omega arith) ∙ k.map_at_lem p u;
        cells = record { count = length-set y at v ∙ k.cells.count; each = λ j u. go j u (ℕ_discrete j at) };
      }
    where
      go : (j : ℕ) → j < CELLS → Dec (j ≡ at) → cell (set y at v) j < 2 ^ 32
      go j u (yes e) = rw (e, get_or-set_same y at v 0 (omega (arith, k.cells.count))) w
      go j u (no e) = rw (get_or-set_other y at j v 0 e) (k.cells.each j u)

  keeps_added : (y : List ℕ) (at mw : ℕ) → GRANTED ≤ at → Keeps maps n y → Keeps maps n (added_cell at mw y)
  keeps_added y at mw a k = keeps_set y at ((cell y at + mw) % 2 ^ 32) a (omega arith) k

  keeps_profile : (H mw p : ℕ) (y : List ℕ) → Keeps maps n y → Keeps maps n (granted_profile d H mw p y)
  unfolding granted_profile
  keeps_profile H mw p y k = go (bit (cell y ((PROFILES + 1) + p)) d)
    where
      go : (t : Bool) → Keeps maps n (cond t (added_cell (GRANTED + place (24 + p) H) mw y) y)
      go true = keeps_added y (GRANTED + place (24 + p) H) mw (omega arith) k
      go false = k

  -- ---- the hour itself

  -- a row of the profiles
  profile_hit : (y : List ℕ) (mw : ℕ) → 24 ≤ l → l - 24 < n → Keeps maps n y
      → cell (repeated (granted_profile d h mw) n 0 y) (GRANTED + i) ≡ (cell y (GRANTED + i) + cond (bit (get_or maps (l - 24) 0) d) mw 0) % 2 ^ 32
  unfolding granted_profile
  profile_hit y mw a u k =
      repeated_once (λ (x : List ℕ). cell x (GRANTED + i)) (granted_profile d h mw) (Keeps maps n) (λ (v : ℕ). (v + cond (bit (get_or maps (l - 24) 0) d) mw 0) % 2 ^ 32) (l - 24) n 0 y
      (λ p x. keeps_profile h mw p x)
      (λ x q. turn x q (bit (get_or maps (l - 24) 0) d) refl)
      (λ p b c e x. profile_other x h mw p (λ q. e (omega arith)))
      k (omega arith) (omega arith)
    where
      at_i : place (24 + (l - 24)) h ≡ i
      at_i = omega arith

      turn : (x : List ℕ) → Keeps maps n x → (t : Bool) → bit (get_or maps (l - 24) 0) d ≡ t
          → cell (granted_profile d h mw (l - 24) x) (GRANTED + i) ≡ (cell x (GRANTED + i) + cond t mw 0) % 2 ^ 32
      turn x q true e = rw (q.map_at_lem (l - 24) u, e, at_i) (raised_here x mw q)
      turn x q false e = rw (q.map_at_lem (l - 24) u, e) (let v = q.cells.each (GRANTED + i) (omega arith) in omega arith)

  -- no profile has that row
  profile_miss : (y : List ℕ) (mw : ℕ) → ((p : ℕ) → p < n → 24 + p ≢ l) → cell (repeated (granted_profile d h mw) n 0 y) (GRANTED + i) ≡ cell y (GRANTED + i)
  profile_miss y mw e =
      repeated_same (λ (x : List ℕ). cell x (GRANTED + i)) (granted_profile d h mw) n 0 y (λ p a u x. profile_other x h mw p (λ q. e p (omega arith) (omega arith)))

  bit_none : bit 0 d ≡ false
  unfolding bit
  bit_none = rw (zero-div (2 ^ d))

  same_cell : (y : List ℕ) → Keeps maps n y → cell y (GRANTED + i) ≡ (cell y (GRANTED + i) + 0) % 2 ^ 32
  same_cell y k = let v = k.cells.each (GRANTED + i) (omega arith) in omega arith

  hour_hit : (y : List ℕ) (mw : ℕ) → Keeps maps n y → cell (granted_hour n d h mw y) (GRANTED + i) ≡ (cell y (GRANTED + i) + cond (holds maps d l) mw 0) % 2 ^ 32
  unfolding granted_hour holds
  hour_hit y mw k = go (dec_lt l 24)
    where
      z : List ℕ
      z = added_cell (GRANTED + place d h) mw y

      of_direction : l < 24 → Dec (l ≡ d) → cell z (GRANTED + i) ≡ (cell y (GRANTED + i) + cond (eqb l d) mw 0) % 2 ^ 32
      of_direction u (yes e) = let at_i : place d h ≡ i = omega arith in rw (eq-eqb l d e, at_i) (raised_here y mw k)
      of_direction u (no e) = rw (ne_eqb l d e) (raised_other y mw (GRANTED + place d h) (λ q. e (omega arith)) ∙ same_cell y k)

      of_profile_lem : 24 ≤ l → Dec (l - 24 < n) → cell (repeated (granted_profile d h mw) n 0 z) (GRANTED + i) ≡ (cell y (GRANTED + i) + cond (bit (get_or maps (l - 24) 0) d) mw 0) % 2 ^ 32
      of_profile_lem a (yes u) =
          profile_hit z mw a u (keeps_added y (GRANTED + place d h) mw (omega arith) k)
          ∙ rw (raised_other y mw (GRANTED + place d h) (λ q. omega arith))
      of_profile_lem a (no u) =
          profile_miss z mw (λ p v e. u (omega arith))
          ∙ raised_other y mw (GRANTED + place d h) (λ q. omega arith)
          ∙ rw (get_or-eq_default maps 0 {n = l - 24} (let w : n ≤ l - 24 = omega arith in rw size w), bit_none) (same_cell y k)

      go : Dec (l < 24) → cell (granted_hour n d h mw y) (GRANTED + i) ≡ (cell y (GRANTED + i) + cond (holds maps d l) mw 0) % 2 ^ 32
      go (yes u) = rw (lt-ltb l 24 u) (profile_miss z mw (λ p v e. omega arith) ∙ of_direction u (ℕ_discrete l d))
      go (no u) = let a : 24 ≤ l = omega arith in rw (le-ltb l 24 a) (of_profile_lem a (dec_lt (l - 24) n))

  -- ---- the hours of a bid

  keeps_hour : (H mw : ℕ) (y : List ℕ) → Keeps maps n y → Keeps maps n (granted_hour n d H mw y)
  unfolding granted_hour
  keeps_hour H mw y k =
      repeated_keeps (Keeps maps n) (granted_profile d H mw) n 0 (added_cell (GRANTED + place d H) mw y) (keeps_profile H mw) (keeps_added y (GRANTED + place d H) mw (omega arith) k)

  module _ (first count : ℕ) (mw : List ℕ) (early : 1 ≤ first) (late : first + count ≤ 26) (rest : (k : ℕ) → count ≤ k → get_or mw k 0 ≡ 0) where
    keeps_next : (j : ℕ) (y : List ℕ) → Keeps maps n y → Keeps maps n (granted_next n d first mw j y)
    unfolding granted_next
    keeps_next j y k = keeps_hour (first + j) (get_or mw j 0) y k

    miss : (y : List ℕ) (j : ℕ) → j < count → first + j ≢ h → cell (granted_next n d first mw j y) (GRANTED + i) ≡ cell y (GRANTED + i)
    unfolding granted_next
    miss y j u e = hour_miss y (first + j) (get_or mw j 0) (omega arith) (omega arith) e

    hit : (y : List ℕ) → first ≤ h → Keeps maps n y → cell (granted_next n d first mw (h - first) y) (GRANTED + i) ≡ (cell y (GRANTED + i) + cond (holds maps d l) (get_or mw (h - first) 0) 0) % 2 ^ 32
    unfolding granted_next
    hit y u k = let e : first + (h - first) ≡ h = omega arith in rw e (hour_hit y (get_or mw (h - first) 0) k)

    no_share : (t : Bool) → cond {A = ℕ} t 0 0 ≡ 0
    no_share true = refl
    no_share false = refl

    hours_at : (y : List ℕ) → Keeps maps n y → cell (granted_hours n d first count mw y) (GRANTED + i) ≡ (cell y (GRANTED + i) + share maps d first mw l h) % 2 ^ 32
    unfolding granted_hours share mw_at
    hours_at y k = go (dec_le first h) (dec_lt h (first + count))
      where
        none : ((j : ℕ) → j < count → first + j ≢ h) → cell (granted_hours n d first count mw y) (GRANTED + i) ≡ cell y (GRANTED + i)
        none e = repeated_same (λ (x : List ℕ). cell x (GRANTED + i)) (granted_next n d first mw) count 0 y (λ j a u x. miss x j (omega arith) (e j (omega arith)))

        go : Dec (first ≤ h) → Dec (h < first + count) → cell (granted_hours n d first count mw y) (GRANTED + i) ≡ (cell y (GRANTED + i) + share maps d first mw l h) % 2 ^ 32
        go (yes a) (yes u) =
            rw (le-leb first h a)
            (repeated_once (λ (x : List ℕ). cell x (GRANTED + i)) (granted_next n d first mw) (Keeps maps n) (λ (v : ℕ). (v + cond (holds maps d l) (get_or mw (h - first) 0) 0) % 2 ^ 32) (h - first) count 0 y
            keeps_next (λ x q. hit x a q) (λ j b c e x. miss x j (omega arith) (λ q. e (omega arith))) k (omega arith) (omega arith))
        go (yes a) (no u) =
            none (λ j b e. u (omega arith)) ∙ rw (le-leb first h a, rest (h - first) (omega arith), no_share (holds maps d l)) (same_cell y k)
        go (no a) u =
            none (λ j b e. a (omega arith)) ∙ rw (lt-leb first h (omega arith), no_share (holds maps d l)) (same_cell y k)

-- ---- the list of the rule

with_bid_length : (maps : List ℕ) (d first : ℕ) (mw : List ℕ) (k : ℕ) (xs : List ℕ) → length (with_bid_mw maps d first mw k xs) ≡ length xs
unfolding with_bid_mw
with_bid_length maps d first mw k [] = refl
with_bid_length maps d first mw k (x ∷ xs) = ap suc (with_bid_length maps d first mw (suc k) xs)

with_bid_at : (maps : List ℕ) (d first : ℕ) (mw : List ℕ) (k : ℕ) (xs : List ℕ) (i : ℕ) → i < length xs
    → get_or (with_bid_mw maps d first mw k xs) i 0 ≡ (get_or xs i 0 + share maps d first mw ((k + i) / 25) (1 + (k + i) % 25)) % 2 ^ 32
unfolding with_bid_mw
with_bid_at maps d first mw k [] i l = absurd (omega arith)
with_bid_at maps d first mw k (x ∷ xs) zero l = rw (add-zero k)
with_bid_at maps d first mw k (x ∷ xs) (suc i) l =
    let e : suc k + i ≡ k + suc i = omega arith in
    rw (← e) (with_bid_at maps d first mw (suc k) xs i (omega arith))

module _ (b : List ℕ) (d first count : ℕ) (mw : List ℕ) (c : Cells b) (dir : d < direction_limit) (early : 1 ≤ first) (late : first + count ≤ 26) (rest : (k : ℕ) → count ≤ k → get_or mw k 0 ≡ 0) where
  abbrev n : ℕ
  n = counted b PROFILES profile_limit

  abbrev after : List ℕ
  after = granted_hours n d first count mw b

  keeps : Keeps (profiles_in b) n b
  unfolding profiles_in
  keeps = record { map_at_lem = λ p u. sym (part_at b (PROFILES + 1) n p u); cells = c }

  granted_list : granted_in after ≡ with_bid_mw (profiles_in b) d first mw 0 (granted_in b)
  unfolding granted_in profiles_in
  granted_list =
      ext_get_or 0 (part after GRANTED 800) (with_bid_mw (profiles_in b) d first mw 0 (part b GRANTED 800))
      (part_length after GRANTED 800 ∙ sym (with_bid_length (profiles_in b) d first mw 0 (part b GRANTED 800) ∙ part_length b GRANTED 800))
      (λ i u.
      let v : i < 800 = rw (part_length after GRANTED 800) at u in
      let w : i < length (part b GRANTED 800) = rw (part_length b GRANTED 800) v in
      part_at after GRANTED 800 i v
      ∙ hours_at (profiles_in b) n d i (omega arith) (part_length b (PROFILES + 1) n) dir v first count mw early late rest b keeps
      ∙ sym (with_bid_at (profiles_in b) d first mw 0 (part b GRANTED 800) i w ∙ rw (zero-add i, part_at b GRANTED 800 i v)))

  -- ---- and no other part changes

  profile_apart : (x : ℕ) (H m p : ℕ) (y : List ℕ) → GRANTED + place (24 + p) H ≢ x → cell (granted_profile d H m p y) x ≡ cell y x
  unfolding granted_profile
  profile_apart x H m p y e = go (bit (cell y ((PROFILES + 1) + p)) d)
    where
      go : (t : Bool) → cell (cond t (added_cell (GRANTED + place (24 + p) H) m y) y) x ≡ cell y x
      go true = get_or-set_other y (GRANTED + place (24 + p) H) x _ 0 (λ q. e (sym q))
      go false = refl

  hours_apart : (x : ℕ) → ((at : ℕ) → GRANTED ≤ at → at < MATCHED → at ≢ x) → cell after x ≡ cell b x
  unfolding granted_hours granted_next granted_hour
  hours_apart x e =
      repeated_same (λ (y : List ℕ). cell y x) (granted_next n d first mw) count 0 b
      (λ j a u y.
      repeated_same (λ (z : List ℕ). cell z x) (granted_profile d (first + j) (get_or mw j 0)) n 0 (added_cell (GRANTED + place d (first + j)) (get_or mw j 0) y)
      (λ p a' u' z. profile_apart x (first + j) (get_or mw j 0) p z (e (GRANTED + place (24 + p) (first + j)) (omega arith) (omega arith)))
      ∙ get_or-set_other y (GRANTED + place d (first + j)) x _ 0 (λ q. e (GRANTED + place d (first + j)) (omega arith) (omega arith) (sym q)))

  -- the granted MW after a bid's stores are those of the rule, and nothing else changed
  pub bid_granted : book_of after ≡ with_granted (book_of b) (with_bid_mw (book_of b).profiles d first mw 0 (book_of b).granted)
  unfolding book_of
  bid_granted =
      only_granted b after (record { below = λ x u. hours_apart x (λ at p q r. omega arith); above = λ x u. hours_apart x (λ at p q r. omega arith) })
      ∙ ap (λ (l : List ℕ). with_granted (book_of b) l) granted_list

  -- ---- where nothing is short no sum wraps, whatever the cells hold

  plain : (k : ℕ) (xs : List ℕ) → ((i : ℕ) → i < length xs → get_or xs i 0 + share (profiles_in b) d first mw ((k + i) / 25) (1 + (k + i) % 25) < 2 ^ 32)
      → with_bid_mw (profiles_in b) d first mw k xs ≡ with_bid (profiles_in b) d first mw k xs
  unfolding with_bid_mw with_bid
  plain k [] e = refl
  plain k (x ∷ xs) e =
      let f : x + share (profiles_in b) d first mw (k / 25) (1 + k % 25) < 2 ^ 32 = rw add-zero at (e 0 (omega arith)) in
      rw (mod-eq_of_lt f) (ap (λ (l : List ℕ). (x + share (profiles_in b) d first mw (k / 25) (1 + k % 25)) ∷ l)
      (plain (suc k) xs (λ i u. let q : suc k + i ≡ k + suc i = omega arith in rw q (e (suc i) (omega arith)))))

  left_cell : (i : ℕ) → i < 800 → left_at (book_of b) (i / 25) (1 + i % 25) ≡ cell b (OFFERED + i) - cell b (GRANTED + i)
  left_cell i v =
      let e : place (i / 25) (1 + i % 25) ≡ i = omega arith in
      left_at_lem b (i / 25) (1 + i % 25) (omega arith) ∙ rw e

  fits : (i : ℕ) → i < 800 → is_short (shortage (book_of b) d first mw) ≡ false → cell b (GRANTED + i) + share (book_of b).profiles d first mw (i / 25) (1 + i % 25) < 2 ^ 32
  fits i v e =
      let f = rw (left_cell i v) at (bid_fits (book_of b) d first mw e (i / 25) (1 + i % 25)) in
      let p = c.each (OFFERED + i) (omega arith) in
      let q = c.each (GRANTED + i) (omega arith) in
      omega arith

  pub bid_fitting : is_short (shortage (book_of b) d first mw) ≡ false → book_of after ≡ with_granted (book_of b) (with_bid (book_of b).profiles d first mw 0 (book_of b).granted)
  unfolding book_of granted_in
  bid_fitting e =
      bid_granted
      ∙ ap (λ (l : List ℕ). with_granted (book_of b) l)
      (plain 0 (part b GRANTED 800) (λ i u. let v : i < 800 = rw (part_length b GRANTED 800) at u in rw (zero-add i, part_at b GRANTED 800 i v) (fits i v e)))
