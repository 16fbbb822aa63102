-- When the bytes at hand settle the answer to a record.
-- Assumes nothing.
use Prim.Native.Nat.{ℕ, zero, suc, ◌+◌, ◌-◌, ◌*◌, ◌≤◌, ◌<◌}
use mathlib.Core.Path.{◌≡◌, refl, sym, ap, subst, ◌∙◌}
use mathlib.Core.Logic.{◌⊎◌, inl, inr, ⊎_elim}
use mathlib.Core.Bool.{Bool, true, false, cond, ◌||◌, ◌&&◌, not, true≢false, false≢true}
use mathlib.Core.List.{List, [], ◌∷◌, ◌++◌, append_assoc}
use native.Mathlib.Omega.{arith}
use native.Mathlib.Nat.{add-zero, zero-add}
use lib.Dec.{eqb, ltb}
use lib.ListN.{length, get_or, drop, replicate, length-append, length-drop, get_or-replicate, get_or-append}
use lib.Seq.{get_or-append-add, get_or-drop}
use borrow.Author.Tests.{le-ltb, ltb-true, ltb-false, ne_eqb, not-true, not-false}
use Rattle.rules.specs.Basics.{bit, map_of, has}
use Rattle.rules.specs.Records.{Kind, widths, kinds, kind_at, is_kind, stands, standing, map_for, bytes_of, number_at, map_at, taking, fields_at, fields_in, end_in, reader_refuses, RecordReply, reading}
use Rattle.rules.proofs.Bools.{or_left, or_right, or-true, and_left}
use Rattle.rules.proofs.Bits.{bit_of_map}
use Rattle.rules.proofs.Records.{readable, Readable}
use Rattle.dayrun_settled.specs.Settled.{longest, is_read, pattern, completed, can_be_read, settled, Bytes, SettledStays, Open, UnsettledOpen}
use Rattle.dayrun_settled.proofs.Patterns.{by_kind, pattern_read}
use Rattle.dayrun_settled.proofs.Front.{taking_most, total, end_longest, end_least, map_front, whole_same, accepts, is_read_by, is_read_lem, refused_alike, read_whole}

-- ---- a field that isn't wholly there

-- up to a position each byte is the same or not 0
abbrev Fuller : List ℕ → List ℕ → ℕ → Type 0
Fuller s u n = (j : ℕ) → j < n → (get_or u j 0 ≡ get_or s j 0) ⊎ (0 < get_or u j 0)

more_fuller : (x n n' : ℕ) → (0 < n → 0 < n') → 0 < x + 256 * n → 0 < x + 256 * n'
more_fuller x zero n' f p = omega arith
more_fuller x (suc n) n' f p = let h = f (omega arith) in omega arith

number_fuller : (w : ℕ) (s u : List ℕ) (n at : ℕ) → Fuller s u n → at + w ≤ n → 0 < number_at w s at → 0 < number_at w u at
unfolding number_at
number_fuller zero s u n at f l p = p
number_fuller (suc w) s u n at f l p =
    ⊎_elim (λ e. rw e (more_fuller (get_or s at 0) (number_at w s (at + 1)) (number_at w u (at + 1)) (number_fuller w s u n (at + 1) f (omega arith)) p))
    (λ q. omega arith) (f at (omega arith))

-- the bits of the map from bit i on are those of a record of the kind with the values
abbrev Standing : Kind → ℕ → ℕ → List ℕ → Type 0
Standing k map i vs = (j : ℕ) → bit map (i + j) ≡ get_or (standing k i vs) j false

some : (n : ℕ) → eqb n 0 ≡ false → 0 < n
some zero q = absurd (true≢false q)
some (suc n) q = omega arith

stands_fuller : (k : Kind) (i v v' : ℕ) (p : Bool) → (0 < v → 0 < v') → p ≡ stands k i (cond p v 0) → stands k i (cond p v' 0) ≡ stands k i (cond p v 0)
unfolding stands
stands_fuller k i v v' false f e = refl
stands_fuller k i v v' true f e = go (has i k.always) (has i k.mws) (eqb v 0) refl (sym e)
  where
    go : (a m z : Bool) → eqb v 0 ≡ z → (a || (m && not z)) ≡ true → (a || (m && not (eqb v' 0))) ≡ (a || (m && not z))
    go true m z h t = refl
    go false false z h t = refl
    go false true true h t = absurd (false≢true t)
    go false true false h t = let more = f (some v h) in rw (ne_eqb v' 0 (λ q. omega arith))

standing_fuller : (k : Kind) (map : ℕ) (s u : List ℕ) (n : ℕ) (ws : List ℕ) (i at : ℕ) → Fuller s u n → at + total ws ≤ n → Standing k map i (fields_at ws i map s at)
    → standing k i (fields_at ws i map u at) ≡ standing k i (fields_at ws i map s at)
unfolding standing fields_at total
standing_fuller k map s u n [] i at f l b = refl
standing_fuller k map s u n (w ∷ ws) i at f l b =
    let t = taking_most w (bit map i) in
    let first : bit map i ≡ stands k i (cond (bit map i) (number_at w s at) 0) = rw (add-zero i) at (b 0) in
    rw (
      stands_fuller k i (number_at w s at) (number_at w u at) (bit map i) (number_fuller w s u n at f (omega arith)) first,
      standing_fuller k map s u n ws (suc i) (at + taking w (bit map i)) f (omega arith) (λ j. let e : suc i + j ≡ i + suc j = omega arith in rw e (b (suc j))),
    )

-- ---- the pattern of a kind

pattern_size : (k : ℕ) → length (pattern k) ≡ longest
unfolding pattern bytes_of
pattern_size k = refl

pattern_byte : (k j : ℕ) → 2 ≤ j → j < longest → get_or (pattern k) j 0 ≡ k
unfolding pattern bytes_of
pattern_byte k zero l h = absurd (omega arith)
pattern_byte k (suc zero) l h = absurd (omega arith)
pattern_byte k (suc (suc j)) l h = get_or-replicate 22 j k 0 (omega arith)

-- it is bytes, and so is what it adds
repeated_fits : (n k j : ℕ) → k < 256 → get_or (replicate n k) j 0 < 256
repeated_fits zero k j l = omega arith
repeated_fits (suc n) k zero l = l
repeated_fits (suc n) k (suc j) l = repeated_fits n k j l

pattern_fits : (k : ℕ) → k < 256 → Bytes (pattern k)
unfolding pattern bytes_of
pattern_fits k l zero = omega arith
pattern_fits k l (suc zero) = omega arith
pattern_fits k l (suc (suc j)) = repeated_fits 22 k j l

added_fits : (k : ℕ) (s : List ℕ) → k < 256 → Bytes (drop (length s) (pattern k))
added_fits k s l i = rw (get_or-drop (length s) (pattern k) i 0) (pattern_fits k l (length s + i))

module _ (k : ℕ) (s : List ℕ) where
  completed_size : longest ≤ length (completed k s)
  unfolding completed
  completed_size = rw (length-append s (drop (length s) (pattern k)), length-drop (length s) (pattern k), pattern_size k) (omega arith)

  completed_same : (j : ℕ) → j < length s → get_or (completed k s) j 0 ≡ get_or s j 0
  unfolding completed
  completed_same j l = get_or-append s (drop (length s) (pattern k)) 0 j l

  completed_byte : (j : ℕ) → length s ≤ j → 2 ≤ j → j < longest → get_or (completed k s) j 0 ≡ k
  unfolding completed
  completed_byte j l two h =
      let e : j ≡ length s + (j - length s) = omega arith in
      let at : get_or (s ++ drop (length s) (pattern k)) (length s + (j - length s)) 0 ≡ get_or (pattern k) (length s + (j - length s)) 0
      = get_or-append-add s (drop (length s) (pattern k)) (j - length s) 0 ∙ get_or-drop (length s) (pattern k) (j - length s) 0 in
      subst (λ (n : ℕ). get_or (s ++ drop (length s) (pattern k)) n 0 ≡ get_or (pattern k) n 0) (sym e) at ∙ pattern_byte k j two h

-- ---- bytes that can be read with some that follow can be read with the pattern

kind_first : (s : List ℕ) → get_or (fields_in s) 0 0 ≡ cond (bit (map_at s) 0) (get_or s 2 0 + 256 * 0) 0
unfolding fields_in fields_at widths number_at
kind_first s = refl

module _ (s t : List ℕ) (ok : is_read (s ++ t) ≡ true) where
  abbrev whole : List ℕ
  whole = s ++ t

  abbrev kind : ℕ
  kind = get_or (fields_in whole) 0 0

  abbrev made : List ℕ
  made = completed kind s

  fine : Readable whole
  fine = readable whole (accepts whole ok)

  kind_some : 0 < kind
  kind_some = ltb-true 0 kind (and_left (ltb 0 kind) (ltb kind 6) fine.kind)

  fuller : 2 ≤ length s → Fuller whole made longest
  fuller two j l = go (ltb j (length s)) refl
    where
      go : (p : Bool) → ltb j (length s) ≡ p → (get_or made j 0 ≡ get_or whole j 0) ⊎ (0 < get_or made j 0)
      go true h = let m = ltb-true j (length s) h in inl (completed_same kind s j m ∙ sym (get_or-append s t 0 j m))
      go false h = let m = ltb-false j (length s) h in inr (rw (completed_byte kind s j m (omega arith) l) kind_some)

  map_made : 2 ≤ length s → map_at made ≡ map_at whole
  unfolding completed
  map_made two = map_front s (drop (length s) (pattern kind)) two ∙ sym (map_front s t two)

  kind_byte : 2 ≤ length s → kind ≡ get_or whole 2 0 → get_or made 2 0 ≡ kind
  kind_byte two e = go (ltb 2 (length s)) refl
    where
      go : (p : Bool) → ltb 2 (length s) ≡ p → get_or made 2 0 ≡ kind
      go true h = let m = ltb-true 2 (length s) h in completed_same kind s 2 m ∙ sym (get_or-append s t 0 2 m) ∙ sym e
      go false h = completed_byte kind s 2 (ltb-false 2 (length s) h) (omega arith) (omega arith)

  kind_made : 2 ≤ length s → get_or (fields_in made) 0 0 ≡ kind
  kind_made two = go (bit (map_at whole) 0) refl
    where
      go : (p : Bool) → bit (map_at whole) 0 ≡ p → get_or (fields_in made) 0 0 ≡ kind
      go false h = let z : kind ≡ 0 = kind_first whole ∙ rw h in absurd (omega (arith, kind_some))
      go true h =
          let e : kind ≡ get_or whole 2 0 = kind_first whole ∙ rw h (omega arith) in
          kind_first made ∙ rw (map_made two, h, kind_byte two e) (omega arith)

  standing_whole : Standing (kind_at kind) (map_at whole) 0 (fields_in whole)
  standing_whole j = ap (λ (m : ℕ). bit m (0 + j)) fine.map ∙ rw (zero-add j) (bit_of_map (standing (kind_at kind) 0 (fields_in whole)) j)

  standing_made : 2 ≤ length s → standing (kind_at kind) 0 (fields_in made) ≡ standing (kind_at kind) 0 (fields_in whole)
  unfolding fields_in total widths
  standing_made two = rw (map_made two) (standing_fuller (kind_at kind) (map_at whole) whole made longest widths 0 2 (fuller two) (omega arith) standing_whole)

  refuses_made : 2 ≤ length s → reader_refuses made 1 ≡ reader_refuses whole 1
  unfolding reader_refuses
  refuses_made two =
      let n = completed_size kind s in
      let l = end_longest made in
      let m = end_least whole in
      let e = fine.ends in
      rw (
        kind_made two,
        standing_made two,
        map_made two,
        le-ltb (length made) 2 (omega arith),
        le-ltb (length made) (end_in made) (omega arith),
        le-ltb (length whole) 2 (omega arith),
        le-ltb (length whole) (end_in whole) e,
      )

  two_made : 2 ≤ length s → is_read made ≡ true
  two_made two = is_read_lem made (refuses_made two ∙ accepts whole ok)

-- ---- fewer bytes than the map has

-- the first eight bits of a map
eight : (k : Kind) (s : List ℕ)
    → (let bit_of : ℕ → ℕ = λ i. cond (stands k i (get_or (fields_in s) i 0)) 1 0 in
    map_of (standing k 0 (fields_in s))
    ≡ bit_of 0 + 2 * (bit_of 1 + 2 * (bit_of 2 + 2 * (bit_of 3 + 2 * (bit_of 4 + 2 * (bit_of 5 + 2 * (bit_of 6 + 2 * (bit_of 7 + 2 * map_of (standing k 8 (drop 8 (fields_in s)))))))))))
unfolding fields_in fields_at widths map_of standing
eight k s = refl

-- the first byte of a kind's map is that of its pattern
abbrev Begins : ℕ → Type 0
Begins k = (s : List ℕ) (x m : ℕ) → x < 256 → x + 256 * m ≡ map_for k (fields_in s) → is_read (completed k (x ∷ [])) ≡ true

begins : (k : ℕ) → is_kind k ≡ true → Begins k
unfolding map_of has kinds stands standing bytes_of pattern completed
begins =
    by_kind Begins
    (λ s x m l q. let n : x ≡ 19 = omega (arith, q ∙ eight (kind_at 1) s) in rw n (pattern_read 1 refl))
    (λ s x m l q. let n : x ≡ 35 = omega (arith, q ∙ eight (kind_at 2) s) in rw n (pattern_read 2 refl))
    (λ s x m l q. let n : x ≡ 87 = omega (arith, q ∙ eight (kind_at 3) s) in rw n (pattern_read 3 refl))
    (λ s x m l q. let n : x ≡ 143 = omega (arith, q ∙ eight (kind_at 4) s) in rw n (pattern_read 4 refl))
    (λ s x m l q. let n : x ≡ 83 = omega (arith, q ∙ eight (kind_at 5) s) in rw n (pattern_read 5 refl))

-- ---- what can be read

any_kind : (s : List ℕ) (k : ℕ) → is_kind k ≡ true → is_read (completed k s) ≡ true → can_be_read s ≡ true
unfolding can_be_read
any_kind s =
    by_kind (λ (k : ℕ). is_read (completed k s) ≡ true → can_be_read s ≡ true)
    (λ e. rw e)
    (λ e. rw (e, or-true (is_read (completed 1 s))))
    (λ e. rw (e, or-true (is_read (completed 1 s) || is_read (completed 2 s))))
    (λ e. rw (e, or-true (is_read (completed 1 s) || is_read (completed 2 s) || is_read (completed 3 s))))
    (λ e. rw (e, or-true (is_read (completed 1 s) || is_read (completed 2 s) || is_read (completed 3 s) || is_read (completed 4 s))))

open_can : (s : List ℕ) → settled s ≡ false → can_be_read s ≡ true
unfolding settled
open_can s e = not-false (can_be_read s) (or_right (is_read s) (not (can_be_read s)) e)

nothing_can : can_be_read [] ≡ true
unfolding completed
nothing_can = any_kind [] 1 refl (pattern_read 1 refl)

-- before the first byte nothing is settled
pub nothing_open : settled [] ≡ false
unfolding reader_refuses settled
nothing_open = rw (is_read_by [] true refl, nothing_can) refl

-- bytes that some that follow make a record of
can_be : (s t : List ℕ) → Bytes s → is_read (s ++ t) ≡ true → can_be_read s ≡ true
unfolding number_at
can_be [] t fit ok = nothing_can
can_be (x ∷ []) t fit ok =
    let f = fine (x ∷ []) t ok in
    any_kind (x ∷ []) (kind (x ∷ []) t ok) f.kind (begins (kind (x ∷ []) t ok) f.kind (x ∷ t) x _ (fit 0) f.map)
can_be (x ∷ y ∷ s) t fit ok = any_kind (x ∷ y ∷ s) (kind (x ∷ y ∷ s) t ok) (fine (x ∷ y ∷ s) t ok).kind (two_made (x ∷ y ∷ s) t ok (omega arith))

-- ---- the two claims

pub settled_stays : SettledStays
unfolding settled
settled_stays s t fit e = go (is_read s) refl (is_read (s ++ t)) refl
  where
    go : (p : Bool) → is_read s ≡ p → (q : Bool) → is_read (s ++ t) ≡ q → reading (s ++ t) ≡ reading s
    go true r q h = whole_same s t (read_whole s r)
    go false r false h = refused_alike (s ++ t) s h r
    go false r true h = absurd (true≢false (sym (can_be s t fit h) ∙ not-true (can_be_read s) (rw r at e)))

pub unsettled_open : UnsettledOpen
unfolding settled can_be_read completed
unsettled_open s e =
    let refused = or_left (is_read s) (not (can_be_read s)) e in
    let can = open_can s e in
    first refused (is_read (completed 1 s)) refl (is_read (completed 2 s)) refl (is_read (completed 3 s)) refl (is_read (completed 4 s)) refl can
  where
    with_kind : (k : ℕ) → k < 256 → is_read s ≡ false → is_read (completed k s) ≡ true → Open s
    with_kind k l r h = record { refused = r; more = drop (length s) (pattern k); bytes = added_fits k s l; accepted = h }

    first : is_read s ≡ false → (a : Bool) → is_read (completed 1 s) ≡ a → (b : Bool) → is_read (completed 2 s) ≡ b → (c : Bool) → is_read (completed 3 s) ≡ c
        → (d : Bool) → is_read (completed 4 s) ≡ d → (is_read (completed 1 s) || is_read (completed 2 s) || is_read (completed 3 s) || is_read (completed 4 s) || is_read (completed 5 s)) ≡ true
        → Open s
    first r true p b q c u d v h = with_kind 1 (omega arith) r p
    first r false p true q c u d v h = with_kind 2 (omega arith) r q
    first r false p false q true u d v h = with_kind 3 (omega arith) r u
    first r false p false q false u true v h = with_kind 4 (omega arith) r v
    first r false p false q false u false v h = with_kind 5 (omega arith) r (rw (p, q, u, v) at h)

-- ---- what follows

-- as many bytes as the longest record has settle it
pub long_settled : (s : List ℕ) → longest ≤ length s → settled s ≡ true
long_settled s l = go (settled s) refl
  where
    go : (p : Bool) → settled s ≡ p → p ≡ true
    go true e = refl
    go false e =
        let o = unsettled_open s e in
        sym o.refused ∙ sym (ap (λ (r : RecordReply). eqb r.reply.number 0) (whole_same s o.more (omega (arith, end_longest s)))) ∙ o.accepted

pub unsettled_few : (s : List ℕ) → settled s ≡ false → length s < longest
unsettled_few s e = go (ltb (length s) longest) refl
  where
    go : (p : Bool) → ltb (length s) longest ≡ p → length s < longest
    go true h = ltb-true (length s) longest h
    go false h = absurd (true≢false (sym (long_settled s (ltb-false (length s) longest h)) ∙ e))

-- it stays settled
pub settled_more : (s t : List ℕ) → Bytes s → settled s ≡ true → settled (s ++ t) ≡ true
settled_more s t fit e = go (settled (s ++ t)) refl
  where
    go : (p : Bool) → settled (s ++ t) ≡ p → p ≡ true
    go true h = refl
    go false h =
        let o = unsettled_open (s ++ t) h in
        let same : reading ((s ++ t) ++ o.more) ≡ reading (s ++ t) = rw (append_assoc s t o.more) (settled_stays s (t ++ o.more) fit e ∙ sym (settled_stays s t fit e)) in
        sym o.refused ∙ sym (ap (λ (r : RecordReply). eqb r.reply.number 0) same) ∙ o.accepted
