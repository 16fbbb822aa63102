-- Rows that are written cell by cell, and each table with a row more.
-- Assumes nothing.
use Prim.Native.Nat.{ℕ, zero, suc, ◌+◌, ◌-◌, ◌*◌, ◌%◌, ◌≤◌, ◌<◌}
use mathlib.Core.Path.{◌≡◌, refl, sym, ap, ◌∙◌}
use mathlib.Core.Logic.{◌≢◌}
use mathlib.Core.List.{List, [], ◌∷◌, ◌++◌}
use native.Mathlib.Omega.{arith}
use native.Mathlib.Nat.{add-zero, zero-add, mul-le-mul_right, le_trans, mod-eq_of_lt}
use lib.ListN.{get_or, set, length, length-set, length-append, get_or-append}
use lib.Seq.{get_or-set_same, get_or-set_other, sets, length-sets, ext_get_or, get_or-append_seam}
use Rattle.rules.specs.Book.{Direction, Party, Right, direction_limit, party_limit, profile_limit, right_limit}
use Rattle.cells.specs.Loops.{rows}
use Rattle.cells.specs.Layout.{CELLS, DIRECTIONS, PROFILES, PARTIES, OFFERED, RIGHTS, PAIRS}
use Rattle.cells.specs.View.{cell, cell_from, part, counted, direction_at, directions_in, profiles_in, party_at, parties_in, right_at, rights_in, book_of}
use Rattle.stores.specs.Stores.{with_row}
use Rattle.cells.proofs.Rows.{rows_same, rows_more}
use Rattle.cells.proofs.Regions.{Within, only_directions, only_profiles, only_parties, only_rights, part_agree}
use Rattle.cells.specs.Updates.{with_directions, with_profiles, with_parties, with_rights}
use Rattle.cells.proofs.Views.{part_at, part_length}

-- ---- the cells of a row

pub sets_other : (row b : List ℕ) (at x : ℕ) → ((k : ℕ) → k < length row → x ≢ at + k) → cell (sets b at row) x ≡ cell b x
sets_other [] b at x e = refl
sets_other (v ∷ row) b at x e =
    sets_other row (set b at v) (suc at) x (λ k l q. e (suc k) (omega arith) (omega arith))
    ∙ get_or-set_other b at x v 0 (λ q. e 0 (omega arith) (omega arith))

pub sets_at : (row b : List ℕ) (at k : ℕ) → k < length row → at + length row ≤ length b → cell (sets b at row) (at + k) ≡ get_or row k 0
sets_at [] b at k l u = absurd (omega arith)
sets_at (v ∷ row) b at zero l u =
    rw (add-zero at) (sets_other row (set b at v) (suc at) at (λ k p q. omega arith) ∙ get_or-set_same b at v 0 (omega arith))
sets_at (v ∷ row) b at (suc k) l u =
    let e : at + suc k ≡ suc at + k = omega arith in
    rw e (sets_at row (set b at v) (suc at) k (omega arith) (rw (length-set b at v) (omega arith)))

-- ---- any table with a row more

-- row j ends before row n begins
before : (j n w : ℕ) → j < n → j * w + w ≤ n * w
before j n w l = le_trans (omega arith) (mul-le-mul_right w l)

module _ (table w limit : ℕ) (b : List ℕ) (n : ℕ) (row : List ℕ) (size : length row ≡ w) (l : n < limit) (room : table + 1 + limit * w ≤ length b) where
  abbrev made : List ℕ
  made = with_row table n row b

  last_row : n * w + w ≤ limit * w
  last_row = before n limit w l

  row_other : (x : ℕ) → x ≢ table → ((k : ℕ) → k < w → x ≢ table + 1 + n * w + k) → cell made x ≡ cell b x
  unfolding with_row
  row_other x p q =
      get_or-set_other (sets b (table + 1 + n * length row) row) table x (n + 1) 0 p
      ∙ sets_other row b (table + 1 + n * length row) x (λ k m. rw size (q k (rw size at m)))

  pub row_cell : (k : ℕ) → k < w → cell made (table + 1 + n * w + k) ≡ get_or row k 0
  unfolding with_row
  row_cell k m =
      let u : table + 1 + n * length row + length row ≤ length b = rw size (omega (arith, last_row)) in
      rw (← size)
      (get_or-set_other (sets b (table + 1 + n * length row) row) table (table + 1 + n * length row + k) (n + 1) 0 (λ e. omega arith)
      ∙ sets_at row b (table + 1 + n * length row) k (rw size m) u)

  row_count : cell made table ≡ n + 1
  unfolding with_row
  row_count = get_or-set_same (sets b (table + 1 + n * length row) row) table (n + 1) 0 (simp length-sets (omega arith))

  pub row_within : (end : ℕ) → table + 1 + limit * w ≤ end → Within table end b made
  row_within end u =
      record {
        below = λ i h. row_other i (λ e. omega arith) (λ k m e. omega arith);
        above = λ i h. row_other i (λ e. omega arith) (λ k m e. omega (arith, last_row));
      }

  -- an earlier row
  row_before : (j : ℕ) → j < n → (k : ℕ) → k < w → cell made (table + 1 + j * w + k) ≡ cell b (table + 1 + j * w + k)
  row_before j m k p = row_other (table + 1 + j * w + k) (λ e. omega arith) (λ i q e. omega (arith, before j n w m))

  -- f reads row i from the w cells of that row alone
  module _ {A : Type 0} (f : List ℕ → ℕ → A)
      (own : (c c' : List ℕ) (i : ℕ) → ((k : ℕ) → k < w → cell c' (table + 1 + i * w + k) ≡ cell c (table + 1 + i * w + k)) → f c' i ≡ f c i) where
    pub table_more : (x : A) → counted b table limit ≡ n → f made n ≡ x
        → rows (f made) (counted made table limit) 0 ≡ rows (f b) (counted b table limit) 0 ++ (x ∷ [])
    table_more x e here =
        let m : counted made table limit ≡ suc n = rw row_count (omega arith) in
        rw (m, e, rows_more (f made) n 0, zero-add n, here)
        (ap (λ (r : List A). r ++ (x ∷ [])) (rows_same (f made) (f b) n 0 (λ j p q. own b made j (row_before j (omega arith)))))

-- no cell is added or taken away
pub length-row : (table n : ℕ) (row b : List ℕ) → length (with_row table n row b) ≡ length b
unfolding with_row
length-row table n row b = simp (length-set, length-sets)

-- ---- each row is read from its own cells

direction_own : (c c' : List ℕ) (i : ℕ) → ((k : ℕ) → k < 3 → cell c' (DIRECTIONS + 1 + i * 3 + k) ≡ cell c (DIRECTIONS + 1 + i * 3 + k)) → direction_at c' i ≡ direction_at c i
direction_own c c' i h =
    let two : DIRECTIONS + 1 + i * 3 + 1 ≡ DIRECTIONS + 2 + i * 3 = omega arith in
    let three : DIRECTIONS + 1 + i * 3 + 2 ≡ DIRECTIONS + 3 + i * 3 = omega arith in
    rw (rw add-zero at (h 0 (omega arith)), rw two at (h 1 (omega arith)), rw three at (h 2 (omega arith)))

profile_own : (c c' : List ℕ) (i : ℕ) → ((k : ℕ) → k < 1 → cell c' (PROFILES + 1 + i * 1 + k) ≡ cell c (PROFILES + 1 + i * 1 + k)) → cell_from c' (PROFILES + 1) i ≡ cell_from c (PROFILES + 1) i
unfolding cell_from
profile_own c c' i h =
    let e : PROFILES + 1 + i * 1 + 0 ≡ PROFILES + 1 + i = omega arith in
    rw e at (h 0 (omega arith))

-- a part of a row
pub part_own : (c c' : List ℕ) (at w s n : ℕ) → s + n ≤ w → ((k : ℕ) → k < w → cell c' (at + k) ≡ cell c (at + k)) → part c' (at + s) n ≡ part c (at + s) n
part_own c c' at w s n u h = part_agree c c' (at + s) n (λ j p q. moved j p q)
  where
    moved : (j : ℕ) → at + s ≤ j → j < at + s + n → cell c' j ≡ cell c j
    moved j p q =
        let e : at + (j - at) ≡ j = omega arith in
        rw e at (h (j - at) (omega arith))

party_own : (c c' : List ℕ) (i : ℕ) → ((k : ℕ) → k < 17 → cell c' (PARTIES + 1 + i * 17 + k) ≡ cell c (PARTIES + 1 + i * 17 + k)) → party_at c' i ≡ party_at c i
unfolding party_at
party_own c c' i h =
    let e : PARTIES + 1 + i * 17 + 16 ≡ PARTIES + 17 + i * 17 = omega arith in
    rw (rw add-zero at (part_own c c' (PARTIES + 1 + i * 17) 17 0 16 (omega arith) h), rw e at (h 16 (omega arith)))

pub right_own : (c c' : List ℕ) (i : ℕ) → ((k : ℕ) → k < 8 → cell c' (RIGHTS + 1 + i * 8 + k) ≡ cell c (RIGHTS + 1 + i * 8 + k)) → right_at c' i ≡ right_at c i
unfolding right_at
right_own c c' i h =
    let two : RIGHTS + 1 + i * 8 + 1 ≡ RIGHTS + 2 + i * 8 = omega arith in
    let three : RIGHTS + 1 + i * 8 + 2 ≡ RIGHTS + 3 + i * 8 = omega arith in
    let four : RIGHTS + 1 + i * 8 + 3 ≡ RIGHTS + 4 + i * 8 = omega arith in
    rw (rw add-zero at (h 0 (omega arith)), rw two at (h 1 (omega arith)), rw three at (h 2 (omega arith)), rw four at (part_own c c' (RIGHTS + 1 + i * 8) 8 3 5 (omega arith) h))

-- n cells of a row that was written
pub part_written : (b : List ℕ) (at s n : ℕ) (row : List ℕ) → length row ≡ n → ((k : ℕ) → k < n → cell b (at + (s + k)) ≡ get_or row k 0) → part b (at + s) n ≡ row
part_written b at s n row size h =
    ext_get_or 0 (part b (at + s) n) row (part_length b (at + s) n ∙ sym size)
    (λ k m.
    let v : k < n = rw (part_length b (at + s) n) at m in
    let e : at + s + k ≡ at + (s + k) = omega arith in
    part_at b (at + s) n k v ∙ rw e (h k v))

-- ---- a direction more

pub direction_more : (b : List ℕ) (n o i m : ℕ) → n < direction_limit → length b ≡ CELLS → counted b DIRECTIONS direction_limit ≡ n
    → book_of (with_row DIRECTIONS n (o ∷ i ∷ m ∷ []) b) ≡ with_directions (book_of b) ((book_of b).directions ++ (record { out = o; into = i; model = m } ∷ []))
unfolding book_of directions_in
direction_more b n o i m l u e =
    let row : List ℕ = o ∷ i ∷ m ∷ [] in
    let two : DIRECTIONS + 1 + n * 3 + 1 ≡ DIRECTIONS + 2 + n * 3 = omega arith in
    let three : DIRECTIONS + 1 + n * 3 + 2 ≡ DIRECTIONS + 3 + n * 3 = omega arith in
    only_directions b (with_row DIRECTIONS n row b) (row_within DIRECTIONS 3 direction_limit b n row refl l (omega arith) PROFILES (omega arith))
    ∙ ap (λ (x : List Direction). with_directions (book_of b) x)
    (table_more DIRECTIONS 3 direction_limit b n row refl l (omega arith) direction_at direction_own (record { out = o; into = i; model = m }) e
    (rw (rw add-zero at (row_cell DIRECTIONS 3 direction_limit b n row refl l (omega arith) 0 (omega arith)), rw two at (row_cell DIRECTIONS 3 direction_limit b n row refl l (omega arith) 1 (omega arith)), rw three at (row_cell DIRECTIONS 3 direction_limit b n row refl l (omega arith) 2 (omega arith)))))

-- ---- a profile more

pub profile_more : (b : List ℕ) (n map : ℕ) → n < profile_limit → length b ≡ CELLS → counted b PROFILES profile_limit ≡ n
    → book_of (with_row PROFILES n (map ∷ []) b) ≡ with_profiles (book_of b) ((book_of b).profiles ++ (map ∷ []))
unfolding book_of profiles_in part cell_from
profile_more b n map l u e =
    let row : List ℕ = map ∷ [] in
    let one : PROFILES + 1 + n * 1 + 0 ≡ PROFILES + 1 + n = omega arith in
    only_profiles b (with_row PROFILES n row b) (row_within PROFILES 1 profile_limit b n row refl l (omega arith) PARTIES (omega arith))
    ∙ ap (λ (x : List ℕ). with_profiles (book_of b) x)
    (table_more PROFILES 1 profile_limit b n row refl l (omega arith) (λ c. cell_from c (PROFILES + 1)) profile_own map e
    (rw one at (row_cell PROFILES 1 profile_limit b n row refl l (omega arith) 0 (omega arith))))

-- ---- a party more

party_same : {c c' : List ℕ} {a a' : ℕ} → c ≡ c' → a ≡ a' → ◌≡◌ {A = Party} (record { code = c; access = a }) (record { code = c'; access = a' })
party_same p q = rw (p, q)

module _ (b : List ℕ) (n : ℕ) (code : List ℕ) (access : ℕ) (l : n < party_limit) (u : length b ≡ CELLS) (size : length code ≡ 16) where
  abbrev row : List ℕ
  row = code ++ (access ∷ [])

  row_size : length row ≡ 17
  row_size = rw length-append (omega arith)

  seventeenth : get_or row 16 0 ≡ access
  seventeenth = rw size at (get_or-append_seam code access [] 0)

  party_here : party_at (with_row PARTIES n row b) n ≡ record { code = code; access = access }
  unfolding party_at
  party_here =
      let cells = row_cell PARTIES 17 party_limit b n row row_size l (omega arith) in
      let last : PARTIES + 1 + n * 17 + 16 ≡ PARTIES + 17 + n * 17 = omega arith in
      party_same
      (rw add-zero at (part_written (with_row PARTIES n row b) (PARTIES + 1 + n * 17) 0 16 code size (λ k m. rw (zero-add k) (cells k (omega arith) ∙ get_or-append code (access ∷ []) 0 k (omega arith)))))
      (rw last at (cells 16 (omega arith) ∙ seventeenth))

  pub party_more : counted b PARTIES party_limit ≡ n → book_of (with_row PARTIES n row b) ≡ with_parties (book_of b) ((book_of b).parties ++ (record { code = code; access = access } ∷ []))
  unfolding book_of parties_in
  party_more e =
      only_parties b (with_row PARTIES n row b) (row_within PARTIES 17 party_limit b n row row_size l (omega arith) OFFERED (omega arith))
      ∙ ap (λ (x : List Party). with_parties (book_of b) x) (table_more PARTIES 17 party_limit b n row row_size l (omega arith) party_at party_own (record { code = code; access = access }) e party_here)

-- ---- a right more

pub right_same : {h h' d d' s s' : ℕ} {m m' : List ℕ} → h ≡ h' → d ≡ d' → s ≡ s' → m ≡ m'
    → ◌≡◌ {A = Right} (record { holder = h; direction = d; session = s; mw = m }) (record { holder = h'; direction = d'; session = s'; mw = m' })
right_same p q r t = rw (p, q, r, t)

module _ (b : List ℕ) (n h d s : ℕ) (mw : List ℕ) (bytes : (h < 256) × (d < 256) × (s < 256)) (l : n < right_limit) (u : length b ≡ CELLS) (size : length mw ≡ 5) where
  abbrev entry : List ℕ
  entry = h ∷ d ∷ s ∷ mw

  entry_size : length entry ≡ 8
  entry_size = omega arith

  right_here : right_at (with_row RIGHTS n entry b) n ≡ record { holder = h; direction = d; session = s; mw = mw }
  unfolding right_at
  right_here =
      let cells = row_cell RIGHTS 8 right_limit b n entry entry_size l (omega arith) in
      let two : RIGHTS + 1 + n * 8 + 1 ≡ RIGHTS + 2 + n * 8 = omega arith in
      let three : RIGHTS + 1 + n * 8 + 2 ≡ RIGHTS + 3 + n * 8 = omega arith in
      let four : RIGHTS + 1 + n * 8 + 3 ≡ RIGHTS + 4 + n * 8 = omega arith in
      right_same
      (byte bytes.0 (rw add-zero at (cells 0 (omega arith))))
      (byte bytes.1 (rw two at (cells 1 (omega arith))))
      (byte bytes.2 (rw three at (cells 2 (omega arith))))
      (rw four at (part_written (with_row RIGHTS n entry b) (RIGHTS + 1 + n * 8) 3 5 mw size (λ k m. cells (3 + k) (omega arith) ∙ three_on k)))
    where
      byte : {x y : ℕ} → y < 256 → x ≡ y → x % 256 ≡ y
      byte m e = rw e (mod-eq_of_lt m)

      three_on : (k : ℕ) → get_or entry (3 + k) 0 ≡ get_or mw k 0
      three_on k = let e : 3 + k ≡ suc (suc (suc k)) = omega arith in rw e

  pub right_more : counted b RIGHTS right_limit ≡ n
      → book_of (with_row RIGHTS n entry b) ≡ with_rights (book_of b) ((book_of b).rights ++ (record { holder = h; direction = d; session = s; mw = mw } ∷ []))
  unfolding book_of rights_in
  right_more e =
      only_rights b (with_row RIGHTS n entry b) (row_within RIGHTS 8 right_limit b n entry entry_size l (omega arith) PAIRS (omega arith))
      ∙ ap (λ (x : List Right). with_rights (book_of b) x)
      (table_more RIGHTS 8 right_limit b n entry entry_size l (omega arith) right_at right_own (record { holder = h; direction = d; session = s; mw = mw }) e right_here)
