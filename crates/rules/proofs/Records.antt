-- 01, Call records: a written call is read back, whatever follows it, and a record that was read is written back, byte for byte.
-- Assumes nothing.
use Prim.Native.Nat.{ℕ, zero, suc, ◌+◌, ◌*◌, ◌/◌, ◌%◌, ◌^◌, ◌<◌, ◌≤◌}
use mathlib.Core.Path.{◌≡◌, refl, sym, ap, ◌∙◌}
use mathlib.Core.Bool.{Bool, true, false, cond, ◌||◌, ◌&&◌, not, true≢false, false≢true, and-false}
use mathlib.Core.List.{List, [], ◌∷◌, ◌++◌, append_assoc, append-nil}
use native.Mathlib.Omega.{arith}
use native.Mathlib.Numerals.{add-one}
use native.Mathlib.Nat.{add-zero, zero-add, pow-suc, mod-add-div, add-mul-mod_self_left, mod-eq_of_lt, div-lt_iff_lt-mul}
use lib.Dec.{eqb, ltb}
use lib.ListN.{length, get_or, take, drop, length-append, get_or-eq_default}
use lib.Seq.{take-suc, append_snoc, get_or-drop, drop-drop, drop_at, length-take-le}
use borrow.Author.Tests.{eqb-true, eq-eqb, ltb-false, le-ltb, not-false}
use Rattle.rules.specs.Basics.{bit, map_of, has}
use Rattle.rules.specs.Calls.{no_details}
use Rattle.rules.specs.Refusals.{order, first_of}
use Rattle.rules.specs.Records.{Kind, widths, fields_of, call_of, kind_at, is_kind, stands, standing, map_for, foreign, bytes_of, body, record_of, writer_refuses, Written, writing, number_at, map_at, taking, fields_at, end_at, fields_in, end_in, reader_refuses, RecordReply, no_call, reading}
use Rattle.rules.specs.declared.CallRecord.{CallRecord}
use Rattle.rules.proofs.Bits.{bit_of_map, map_below}

-- ---- a number in bytes

pub bytes_length : (w v : ℕ) → length (bytes_of w v) ≡ w
unfolding bytes_of
bytes_length zero v = refl
bytes_length (suc w) v = ap suc (bytes_length w _)

number_written : (w v : ℕ) (s t : List ℕ) (at : ℕ) → v < 256 ^ w → drop at s ≡ bytes_of w v ++ t → number_at w s at ≡ v
unfolding bytes_of number_at
number_written zero v s t at l e = omega arith
number_written (suc w) v s t at l e =
    let low : get_or s at 0 ≡ v % 256 = rw (add-zero at) at (sym (get_or-drop at s 0 0)) ∙ ap (λ (r : List ℕ). get_or r 0 0) e in
    let after : drop (at + 1) s ≡ bytes_of w (v / 256) ++ t = sym (drop-drop 1 at s) ∙ ap (λ (r : List ℕ). drop 1 r) e in
    let fits : v / 256 < 256 ^ w = (div-lt_iff_lt-mul {k = 256} {x = v} {y = 256 ^ w} (omega arith)).1 (rw (pow-suc 256 w) at l) in
    rw (low, number_written w (v / 256) s t (at + 1) fits after) (mod-add-div v 256)

bytes_read : (w : ℕ) (s : List ℕ) (at : ℕ) → ((i : ℕ) → get_or s i 0 < 256) → at + w ≤ length s → take at s ++ bytes_of w (number_at w s at) ≡ take (at + w) s
unfolding bytes_of number_at
bytes_read zero s at b l = rw (append-nil (take at s), add-zero at)
bytes_read (suc w) s at b l =
    let rest = number_at w s (at + 1) in
    let low : (get_or s at 0 + 256 * rest) % 256 ≡ get_or s at 0 = add-mul-mod_self_left (get_or s at 0) 256 rest ∙ mod-eq_of_lt (b at) in
    let high : (get_or s at 0 + 256 * rest) / 256 ≡ rest = omega (arith, b at) in
    let e : at + suc w ≡ at + 1 + w = omega arith in
    rw (low, high, e, ← append_snoc (take at s) (get_or s at 0) (bytes_of w rest), ← take-suc s at 0 (omega arith), ← add-one at)
    (bytes_read w s (at + 1) b (omega arith))

pub number_below : (w : ℕ) (s : List ℕ) (at : ℕ) → ((i : ℕ) → get_or s i 0 < 256) → number_at w s at < 256 ^ w
unfolding number_at
number_below zero s at b = omega arith
number_below (suc w) s at b = rw (pow-suc 256 w) (omega (arith, b at, number_below w s (at + 1) b))

-- ---- one field

pub neither : (a b : Bool) → (a || b) ≡ false → (a ≡ false) × (b ≡ false)
neither true b e = absurd (true≢false e)
neither false b e = (refl, e)

-- a field that does not stand, and is not foreign, is zero
absent : (a m z : Bool) → (a || (m && not z)) ≡ false → (not (a || m) && not z) ≡ false → z ≡ true
absent true m z p q = absurd (true≢false p)
absent false true z p q = not-false z p
absent false false z p q = not-false z q

-- a field that stands is not foreign
belongs : (a m z : Bool) → (a || (m && not z)) ≡ true → (not (a || m) && not z) ≡ false
belongs true m z p = refl
belongs false true z p = refl
belongs false false z p = absurd (false≢true p)

field_written : (p : Bool) (w v : ℕ) (s t : List ℕ) (at : ℕ) → v < 256 ^ w → (p ≡ false → v ≡ 0) → drop at s ≡ cond p (bytes_of w v) [] ++ t
    → (cond p (number_at w s at) 0 ≡ v) × (drop (at + taking w p) s ≡ t)
field_written true w v s t at l z e =
    (number_written w v s t at l e, sym (drop-drop w at s) ∙ ap (λ (r : List ℕ). drop w r) e ∙ drop_at (bytes_of w v) t w (bytes_length w v))
field_written false w v s t at l z e = (sym (z refl), rw (add-zero at) e)

field_read : (p : Bool) (w : ℕ) (s t : List ℕ) (at : ℕ) → ((i : ℕ) → get_or s i 0 < 256) → at + taking w p ≤ length s
    → take at s ++ (cond p (bytes_of w (cond p (number_at w s at) 0)) [] ++ t) ≡ take (at + taking w p) s ++ t
field_read true w s t at b l = rw (← append_assoc (take at s) (bytes_of w (number_at w s at)) t, bytes_read w s at b l)
field_read false w s t at b l = rw (add-zero at)

-- ---- the fields from a bit on

zero_unless : (k : Kind) (i v : ℕ) → stands k i v ≡ false → (not (has i k.always || has i k.mws) && not (eqb v 0)) ≡ false → v ≡ 0
unfolding stands
zero_unless k i v p q = eqb-true v 0 (absent (has i k.always) (has i k.mws) (eqb v 0) p q)

-- the bits of the map from bit i on are those of a record of the kind with the values
abbrev Standing : Kind → ℕ → ℕ → List ℕ → Type 0
Standing k map i vs = (j : ℕ) → bit map (i + j) ≡ get_or (standing k i vs) j false

stands_first : (k : Kind) (map i v : ℕ) (vs : List ℕ) → Standing k map i (v ∷ vs) → bit map i ≡ stands k i v
unfolding standing
stands_first k map i v vs b = rw (add-zero i) at (b 0)

stands_rest : (k : Kind) (map i v : ℕ) (vs : List ℕ) → Standing k map i (v ∷ vs) → Standing k map (suc i) vs
unfolding standing
stands_rest k map i v vs b j = let e : suc i + j ≡ i + suc j = omega arith in rw e (b (suc j))

fields_written : (k : Kind) (map : ℕ) (s t ws vs : List ℕ) (i at : ℕ) → length ws ≡ length vs → ((j : ℕ) → get_or vs j 0 < 256 ^ get_or ws j 0)
    → foreign k i vs ≡ false → Standing k map i vs → drop at s ≡ body k i ws vs ++ t
    → (fields_at ws i map s at ≡ vs) × (end_at ws i map at ≡ at + length (body k i ws vs))
unfolding fields_at end_at body foreign
fields_written k map s t [] [] i at n l f b e = (refl, sym (add-zero at))
fields_written k map s t [] (v ∷ vs) i at n l f b e = absurd (omega arith)
fields_written k map s t (w ∷ ws) [] i at n l f b e = absurd (omega arith)
fields_written k map s t (w ∷ ws) (v ∷ vs) i at n l f b e =
    let first : bit map i ≡ stands k i v = stands_first k map i v vs b in
    let f' = neither (not (has i k.always || has i k.mws) && not (eqb v 0)) (foreign k (suc i) vs) f in
    let rest : List ℕ = body k (suc i) ws vs in
    let here = field_written (bit map i) w v s (rest ++ t) at (l 0) (λ p. zero_unless k i v (sym first ∙ p) f'.0)
    (e ∙ rw (← first, append_assoc (cond (bit map i) (bytes_of w v) []) rest t)) in
    let after = fields_written k map s t ws vs (suc i) (at + taking w (bit map i)) (omega arith) (λ j. l (suc j)) f'.1 (stands_rest k map i v vs b) here.1 in
    (rw (here.0, after.0), after.1 ∙ rw (← first, length-append (cond (bit map i) (bytes_of w v) []) rest) (counted (bit map i)))
  where
    counted : (p : Bool) → at + taking w p + length (body k (suc i) ws vs) ≡ at + (length (cond p (bytes_of w v) []) + length (body k (suc i) ws vs))
    counted true = rw (bytes_length w v) (omega arith)
    counted false = omega arith

pub end_after : (ws : List ℕ) (i map at : ℕ) → at ≤ end_at ws i map at
unfolding end_at
end_after [] i map at = omega arith
end_after (w ∷ ws) i map at = omega (arith, end_after ws (suc i) map (at + taking w (bit map i)))

-- a field that was read is not foreign
none_foreign : (k : Kind) (i n : ℕ) (p : Bool) → p ≡ stands k i (cond p n 0) → (not (has i k.always || has i k.mws) && not (eqb (cond p n 0) 0)) ≡ false
unfolding stands
none_foreign k i n true e = belongs (has i k.always) (has i k.mws) (eqb n 0) (sym e)
none_foreign k i n false e = and-false (not (has i k.always || has i k.mws))

fields_read : (k : Kind) (map : ℕ) (s ws : List ℕ) (i at : ℕ) → ((j : ℕ) → get_or s j 0 < 256)
    → Standing k map i (fields_at ws i map s at) → end_at ws i map at ≤ length s
    → (take at s ++ body k i ws (fields_at ws i map s at) ≡ take (end_at ws i map at) s) × (foreign k i (fields_at ws i map s at) ≡ false)
unfolding fields_at end_at body foreign
fields_read k map s [] i at l b e = (append-nil (take at s), refl)
fields_read k map s (w ∷ ws) i at l b e =
    let v : ℕ = cond (bit map i) (number_at w s at) 0 in
    let next : ℕ = at + taking w (bit map i) in
    let vs : List ℕ = fields_at ws (suc i) map s next in
    let first : bit map i ≡ stands k i v = stands_first k map i v vs b in
    let fits : next ≤ length s = omega (arith, end_after ws (suc i) map next) in
    let after = fields_read k map s ws (suc i) next l (stands_rest k map i v vs b) e in
    (rw (← first) (field_read (bit map i) w s (body k (suc i) ws vs) at l fits ∙ after.0), rw (none_foreign k i (number_at w s at) (bit map i) first) after.1)

pub fields_below : (ws : List ℕ) (i map : ℕ) (s : List ℕ) (at : ℕ) → ((j : ℕ) → get_or s j 0 < 256) → (j : ℕ) → get_or (fields_at ws i map s at) j 0 < 256 ^ get_or ws j 0
unfolding fields_at
fields_below [] i map s at b j = omega arith
fields_below (w ∷ ws) i map s at b zero = first (bit map i)
  where
    first : (p : Bool) → cond p (number_at w s at) 0 < 256 ^ w
    first true = number_below w s at b
    first false = omega (arith, number_below w s at b)
fields_below (w ∷ ws) i map s at b (suc j) = fields_below ws (suc i) map s (at + taking w (bit map i)) b j

-- ---- a call and its fields

five_hours : (mw : List ℕ) → length mw ≡ 5 → get_or mw 0 0 ∷ get_or mw 1 0 ∷ get_or mw 2 0 ∷ get_or mw 3 0 ∷ get_or mw 4 0 ∷ [] ≡ mw
five_hours (a ∷ b ∷ c ∷ d ∷ e ∷ []) n = refl
five_hours [] n = absurd (omega arith)
five_hours (a ∷ []) n = absurd (omega arith)
five_hours (a ∷ b ∷ []) n = absurd (omega arith)
five_hours (a ∷ b ∷ c ∷ []) n = absurd (omega arith)
five_hours (a ∷ b ∷ c ∷ d ∷ []) n = absurd (omega arith)
five_hours (a ∷ b ∷ c ∷ d ∷ e ∷ f ∷ mw) n = absurd (omega arith)

call_of_fields : (c : CallRecord) → length c.mw ≡ 5 → call_of (fields_of c) ≡ c
unfolding call_of fields_of
call_of_fields c n = rw (five_hours c.mw n)

fields_of_call : (s : List ℕ) → fields_of (call_of (fields_in s)) ≡ fields_in s
unfolding call_of fields_of fields_in fields_at widths
fields_of_call s = refl

-- ---- granted or refused

pub reading_by : (s : List ℕ) (t : Bool) → reader_refuses s 1 ≡ t
    → reading s ≡ record { reply = no_details (cond t 1 0); length = cond t 0 (end_in s); call = cond t no_call (call_of (fields_in s)) }
unfolding reading reader_refuses first_of order
reading_by s true e = rw e
reading_by s false e = rw e

pub writing_by : (c : CallRecord) (b : List ℕ) (t : Bool) → writer_refuses c b 1 ≡ t
    → writing c b ≡ record {
      reply = record { number = cond t 1 0; first = cond t 0 (length (record_of c)); second = 0 };
      buffer = cond t b (record_of c ++ drop (length (record_of c)) b);
    }
unfolding writing writer_refuses first_of order
writing_by c b true e = rw e
writing_by c b false e = rw e

not_refused : (t : Bool) → ◌≡◌ {A = ℕ} (cond t 1 0) 0 → t ≡ false
not_refused false e = refl
not_refused true e = absurd (omega arith)

pub reader_accepts : (s : List ℕ) → (reading s).reply.number ≡ 0 → reader_refuses s 1 ≡ false
reader_accepts s e = not_refused (reader_refuses s 1) (sym (ap (λ (r : RecordReply). r.reply.number) (reading_by s (reader_refuses s 1) refl)) ∙ e)

pub writer_accepts : (c : CallRecord) (b : List ℕ) → (writing c b).reply.number ≡ 0 → writer_refuses c b 1 ≡ false
writer_accepts c b e = not_refused (writer_refuses c b 1) (sym (ap (λ (r : Written). r.reply.number) (writing_by c b (writer_refuses c b 1) refl)) ∙ e)

-- what the writer's tests show of a call that it writes
pub written_kind : (c : CallRecord) (b : List ℕ) → (writing c b).reply.number ≡ 0 → (is_kind c.kind ≡ true) × (foreign (kind_at c.kind) 0 (fields_of c) ≡ false)
unfolding writer_refuses
written_kind c b e =
    let strange : Bool = foreign (kind_at c.kind) 0 (fields_of c) in
    let both = (neither (not (is_kind c.kind) || strange) (ltb (length b) (length (record_of c))) (writer_accepts c b e)).0 in
    (not-false (is_kind c.kind) (neither (not (is_kind c.kind)) strange both).0, (neither (not (is_kind c.kind)) strange both).1)

-- ---- a written call is read back

pub standing_length : (k : Kind) (i : ℕ) (vs : List ℕ) → length (standing k i vs) ≡ length vs
unfolding standing
standing_length k i [] = refl
standing_length k i (v ∷ vs) = ap suc (standing_length k (suc i) vs)

map_standing : (k : Kind) (vs : List ℕ) → Standing k (map_of (standing k 0 vs)) 0 vs
map_standing k vs j = rw (zero-add j) (bit_of_map (standing k 0 vs) j)

none : {a b : Bool} → a ≡ false → b ≡ false → (a || b) ≡ false
none p q = rw (p, q)

module _ (c : CallRecord) (rest : List ℕ) (hours : length c.mw ≡ 5) (fits : (j : ℕ) → get_or (fields_of c) j 0 < 256 ^ get_or widths j 0)
    (kind : is_kind c.kind ≡ true) (own : foreign (kind_at c.kind) 0 (fields_of c) ≡ false) where
  abbrev k : Kind
  k = kind_at c.kind

  abbrev map : ℕ
  map = map_for c.kind (fields_of c)

  abbrev rest_of : List ℕ
  rest_of = body k 0 widths (fields_of c)

  abbrev s : List ℕ
  s = record_of c ++ rest

  count : length (standing k 0 (fields_of c)) ≡ 15
  unfolding fields_of
  count = standing_length k 0 (fields_of c)

  same_count : length widths ≡ length (fields_of c)
  unfolding widths fields_of
  same_count = refl

  split : s ≡ bytes_of 2 map ++ (rest_of ++ rest)
  unfolding record_of
  split = append_assoc (bytes_of 2 map) rest_of rest

  size : length (record_of c) ≡ 2 + length rest_of
  unfolding record_of
  size = rw (length-append (bytes_of 2 map) rest_of, bytes_length 2 map)

  map_back : map_at s ≡ map
  map_back =
      let below : map < 2 ^ 15 = rw count at (map_below (standing k 0 (fields_of c))) in
      number_written 2 map s (rest_of ++ rest) 0 (omega arith) split

  past_map : drop 2 s ≡ rest_of ++ rest
  past_map = rw split (drop_at (bytes_of 2 map) (rest_of ++ rest) 2 (bytes_length 2 map))

  fields_back : (fields_in s ≡ fields_of c) × (end_in s ≡ length (record_of c))
  unfolding fields_in end_in
  fields_back =
      let found = fields_written k map s rest widths (fields_of c) 0 2 same_count fits own (map_standing k (fields_of c)) past_map in
      (rw map_back found.0, rw map_back (found.1 ∙ sym size))

  accepted : reader_refuses s 1 ≡ false
  unfolding reader_refuses fields_of
  accepted =
      let long : length s ≡ length (record_of c) + length rest = length-append (record_of c) rest in
      none (none (none (none (le-ltb (length s) 2 (omega (arith, size))) (le-ltb (length s) (end_in s) (omega (arith, fields_back.1))))
      (rw map_back (bit_of_map (standing k 0 (fields_of c)) 15 ∙ get_or-eq_default (standing k 0 (fields_of c)) false {n = 15} (omega (arith, count)))))
      (ap (λ (vs : List ℕ). not (is_kind (get_or vs 0 0))) fields_back.0 ∙ ap not kind))
      (ap not (eq-eqb (map_at s) (map_for (get_or (fields_in s) 0 0) (fields_in s)) (map_back ∙ sym (ap (λ (vs : List ℕ). map_for (get_or vs 0 0) vs) fields_back.0))))

  pub read_written : reading (record_of c ++ rest) ≡ record { reply = no_details 0; length = length (record_of c); call = c }
  read_written = reading_by s false accepted ∙ rw (fields_back.0, fields_back.1, call_of_fields c hours)

-- ---- a record that was read is written back

-- what the reader's tests show of a record that it accepts
pub record Readable (s : List ℕ) : Type 0 where
  pub ends : end_in s ≤ length s
  pub kind : is_kind (get_or (fields_in s) 0 0) ≡ true
  pub map : map_at s ≡ map_for (get_or (fields_in s) 0 0) (fields_in s)

pub readable : (s : List ℕ) → reader_refuses s 1 ≡ false → Readable s
unfolding reader_refuses
readable s e =
    let kind : ℕ = get_or (fields_in s) 0 0 in
    let early : Bool = ltb (length s) 2 || ltb (length s) (end_in s) in
    let map-test = neither (early || bit (map_at s) 15 || not (is_kind kind)) (not (eqb (map_at s) (map_for kind (fields_in s)))) e in
    let kind-test = neither (early || bit (map_at s) 15) (not (is_kind kind)) map-test.0 in
    let early-test = neither early (bit (map_at s) 15) kind-test.0 in
    record {
      ends = ltb-false (length s) (end_in s) (neither (ltb (length s) 2) (ltb (length s) (end_in s)) early-test.0).1;
      kind = not-false (is_kind kind) kind-test.1;
      map = eqb-true (map_at s) (map_for kind (fields_in s)) (not-false (eqb (map_at s) (map_for kind (fields_in s))) map-test.1);
    }

module _ (s : List ℕ) (bytes : (i : ℕ) → get_or s i 0 < 256) (granted : (reading s).reply.number ≡ 0) where
  abbrev c' : CallRecord
  c' = call_of (fields_in s)

  abbrev k' : Kind
  k' = kind_at (get_or (fields_in s) 0 0)

  abbrev n : ℕ
  n = end_in s

  fine : Readable s
  fine = readable s (reader_accepts s granted)

  fields_kept : (take 2 s ++ body k' 0 widths (fields_in s) ≡ take n s) × (foreign k' 0 (fields_in s) ≡ false)
  unfolding fields_in end_in
  fields_kept =
      fields_read k' (map_at s) s widths 0 2 bytes (λ j. ap (λ (m : ℕ). bit m (0 + j)) fine.map ∙ map_standing k' (fields_in s) j) fine.ends

  map_kept : bytes_of 2 (map_at s) ≡ take 2 s
  unfolding end_in
  map_kept = bytes_read 2 s 0 bytes (omega (arith, fine.ends, end_after widths 0 (map_at s) 2))

  record_kept : record_of c' ≡ take n s
  unfolding record_of call_of
  record_kept = rw (fields_of_call s, ← fine.map, map_kept) fields_kept.0

  written : (buffer : List ℕ) → n ≤ length buffer → writer_refuses c' buffer 1 ≡ false
  unfolding writer_refuses call_of
  written buffer l =
      none (none (ap not fine.kind) (rw (fields_of_call s) fields_kept.1))
      (le-ltb (length buffer) (length (record_of c')) (rw (record_kept, length-take-le n s fine.ends) l))

  -- the record lies in the bytes, and any buffer that has room for it gets the same bytes
  pub written_read : ((reading s).length ≤ length s) × ((buffer : List ℕ) → (reading s).length ≤ length buffer
      → writing (reading s).call buffer
      ≡ record { reply = record { number = 0; first = (reading s).length; second = 0 }; buffer = take (reading s).length s ++ drop (reading s).length buffer })
  written_read =
      rw (reading_by s false (reader_accepts s granted))
      (fine.ends, λ buffer l. writing_by c' buffer false (written buffer l) ∙ rw (record_kept, length-take-le n s fine.ends))
