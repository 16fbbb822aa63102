-- One turn of each loop: what is left to do from a field or a byte on. And a number in its bytes.
-- Assumes nothing.
use Rattle.std.proofs.Common.{◌≡◌, ℕ, zero, suc, ◌+◌, ◌*◌, ◌-◌, ◌/◌, ◌≤◌, ◌<◌, Bool, true, false, cond, List, [], ◌∷◌, ◌++◌, append_assoc, take-suc-set, length, get_or, take, drop, set, length-append, length-take, length-drop, zero-add, refl, sym, ◌∙◌, add-one, arith}
use Rattle.std.proofs.lemmas.List.{drop_more}
use Rattle.std.proofs.lemmas.List.Edits.{sets, sets-eq}
use Rattle.std.specs.Int.{to_le_bytes}
use mir.Syntax.{w32}
use native.Mathlib.Nat.{pow-le-pow_right}
use borrow.Rule.Slice.PartMut.{put_mid}
use lib.ListN.{drop_of_length-le}
use lib.Seq.{append_snoc, drop-drop}
use Rattle.rules.specs.Basics.{bit}
use Rattle.rules.specs.Records.{Kind, widths, stands, bytes_of, body, number_at, taking, fields_at, end_at}
use Rattle.rules.proofs.Stores.{sets-append}
use Rattle.rules.proofs.Records.{bytes_length, number_below}

-- ---- a number, byte by byte

pub number_next : (w left at : ℕ) (s : List ℕ) → 0 < left → left ≤ w
    → number_at (w - (left - 1)) s (at + (left - 1)) ≡ get_or s (at + (left - 1)) 0 + 256 * number_at (w - left) s (at + left)
unfolding number_at
number_next w left at s p l =
    let e : w - (left - 1) ≡ suc (w - left) = omega arith in
    let e' : at + (left - 1) + 1 ≡ at + left = omega arith in
    rw (e, e')

pub number_done : (w at : ℕ) (s : List ℕ) → number_at (w - w) s at ≡ 0
unfolding number_at
number_done w at s = let e : w - w ≡ 0 = omega arith in rw e

-- in 32 bits there is room for one more byte
pub number_room : (w left at : ℕ) (s : List ℕ) → ((i : ℕ) → get_or s i 0 < 256) → 0 < left → w ≤ 4 → number_at (w - left) s (at + left) < 16777216
number_room w left at s b p l =
    omega (arith, number_below (w - left) s (at + left) b, pow-le-pow_right {n = 256} (omega arith) {i = w - left} {j = 3} (omega arith))

-- the low bytes of a number of 32 bits
pub low_bytes : (w n : ℕ) → w ≤ 4 → take w (to_le_bytes w32 n) ≡ bytes_of w n
unfolding bytes_of
low_bytes zero n l = refl
low_bytes (suc zero) n l = refl
low_bytes (suc (suc zero)) n l = refl
low_bytes (suc (suc (suc zero))) n l = let second : n / 256 / 256 ≡ n / 65536 = omega arith in rw second
low_bytes (suc (suc (suc (suc zero)))) n l =
    let second : n / 256 / 256 ≡ n / 65536 = omega arith in
    let third : n / 65536 / 256 ≡ n / 16777216 = omega arith in
    rw (second, third)
low_bytes (suc (suc (suc (suc (suc w))))) n l = absurd (omega arith)

-- a number that fills a part of some bytes
pub part_put : (b : List ℕ) (at w n : ℕ) {part : List ℕ} → at + w ≤ length b → part ≡ bytes_of (length (take (at + w - at) (drop at b))) n
    → put_mid at (at + w - at) b part ≡ sets b at (bytes_of w n)
part_put b at w n l e =
    let width : at + w - at ≡ w = omega arith in
    let long : length (take w (drop at b)) ≡ w = simp (length-take, length-drop) (omega arith) in
    let fits : at + length (bytes_of w n) ≤ length b = rw (bytes_length w n) l in
    rw (e, width, long, drop-drop w at b, sets-eq (bytes_of w n) b at fits, bytes_length w n, append_assoc (take at b) (bytes_of w n) (drop (at + w) b))

-- or the first bytes
pub front_put : (b : List ℕ) (w n : ℕ) {part : List ℕ} → w ≤ length b → part ≡ bytes_of (length (take w b)) n → part ++ drop w b ≡ sets b 0 (bytes_of w n)
front_put b w n l e =
    let long : length (take w b) ≡ w = simp length-take (omega arith) in
    let fits : 0 + length (bytes_of w n) ≤ length b = rw (bytes_length w n) (omega arith) in
    rw (e, long, sets-eq (bytes_of w n) b 0 fits, bytes_length w n, zero-add w)

-- ---- the fields and their widths

fifteen : length widths ≡ 15
unfolding widths
fifteen = refl

widths_done : (i : ℕ) → 15 ≤ i → drop i widths ≡ []
widths_done i l = let all : length widths ≤ i = omega (arith, fifteen) in drop_of_length-le widths all

-- the bytes of a field that stands, or none
field_bytes : (p : Bool) (w v : ℕ) → cond p (bytes_of w v) [] ≡ bytes_of (taking w p) v
unfolding bytes_of
field_bytes true w v = refl
field_bytes false w v = refl

-- the number of a field that stands, or 0
field_number : (p : Bool) (w : ℕ) (s : List ℕ) (at : ℕ) → cond p (number_at w s at) 0 ≡ number_at (taking w p) s at
unfolding number_at
field_number true w s at = refl
field_number false w s at = refl

-- ---- a field and those after it

module _ (k : Kind) (vs : List ℕ) (i : ℕ) (m : length vs ≡ 15) (l : i < 15) where
  abbrev size : ℕ
  size = taking (get_or widths i 0) (stands k i (get_or vs i 0))

  body_next : body k i (drop i widths) (drop i vs) ≡ bytes_of size (get_or vs i 0) ++ body k (i + 1) (drop (i + 1) widths) (drop (i + 1) vs)
  unfolding body
  body_next =
      let here : i < length widths = omega (arith, fifteen) in
      let there : i < length vs = omega arith in
      rw (drop_more widths i 0 here, drop_more vs i 0 there, field_bytes (stands k i (get_or vs i 0)) (get_or widths i 0) (get_or vs i 0), add-one i)

  pub length_next : length (body k i (drop i widths) (drop i vs)) ≡ size + length (body k (i + 1) (drop (i + 1) widths) (drop (i + 1) vs))
  length_next = rw (body_next, length-append, bytes_length size (get_or vs i 0))

  pub sets_next : (b : List ℕ) (at : ℕ)
      → sets b at (body k i (drop i widths) (drop i vs)) ≡ sets (sets b at (bytes_of size (get_or vs i 0))) (at + size) (body k (i + 1) (drop (i + 1) widths) (drop (i + 1) vs))
  sets_next b at =
      rw body_next (sets-append b at (bytes_of size (get_or vs i 0)) (body k (i + 1) (drop (i + 1) widths) (drop (i + 1) vs)) ∙ rw (bytes_length size (get_or vs i 0)))

pub body_done : (k : Kind) (vs : List ℕ) (i : ℕ) → 15 ≤ i → body k i (drop i widths) (drop i vs) ≡ []
unfolding body
body_done k vs i l = rw (widths_done i l)

module _ (map i : ℕ) (s : List ℕ) (at : ℕ) where
  pub fields_next : i < 15
      → fields_at (drop i widths) i map s at ≡ number_at (taking (get_or widths i 0) (bit map i)) s at ∷ fields_at (drop (i + 1) widths) (i + 1) map s (at + taking (get_or widths i 0) (bit map i))
  unfolding fields_at
  fields_next l = let here : i < length widths = omega (arith, fifteen) in rw (drop_more widths i 0 here, field_number (bit map i) (get_or widths i 0) s at, add-one i)

  pub fields_done : 15 ≤ i → fields_at (drop i widths) i map s at ≡ []
  unfolding fields_at
  fields_done l = rw (widths_done i l)

  pub end_next : i < 15 → end_at (drop i widths) i map at ≡ end_at (drop (i + 1) widths) (i + 1) map (at + taking (get_or widths i 0) (bit map i))
  unfolding end_at
  end_next l = let here : i < length widths = omega (arith, fifteen) in rw (drop_more widths i 0 here, add-one i)

  pub end_done : 15 ≤ i → end_at (drop i widths) i map at ≡ at
  unfolding end_at
  end_done l = rw (widths_done i l)

pub take_set : (vs : List ℕ) (i v : ℕ) (rest : List ℕ) → i < length vs → take i vs ++ (v ∷ rest) ≡ take (i + 1) (set vs i v) ++ rest
take_set vs i v rest l = rw (add-one i, take-suc-set vs i v l) (sym (append_snoc (take i vs) v rest))
