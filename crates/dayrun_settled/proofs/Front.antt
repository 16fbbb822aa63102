-- A record that is whole is read alike, whatever follows it.
-- Assumes nothing.
use Prim.Native.Nat.{ℕ, zero, suc, ◌+◌, ◌≤◌}
use mathlib.Core.Path.{◌≡◌, refl, sym, ap, ◌∙◌}
use mathlib.Core.Bool.{Bool, true, false, cond}
use mathlib.Core.List.{List, [], ◌∷◌, ◌++◌}
use native.Mathlib.Omega.{arith}
use lib.Dec.{eqb}
use lib.ListN.{length, length-append, get_or-append}
use borrow.Author.Tests.{le-ltb, eqb-true}
use Rattle.rules.specs.Basics.{bit}
use Rattle.rules.specs.Records.{widths, number_at, map_at, taking, fields_at, end_at, fields_in, end_in, reader_refuses, RecordReply, reading}
use Rattle.rules.proofs.Records.{end_after, reading_by, reader_accepts, readable}
use Rattle.dayrun_settled.specs.Settled.{longest, is_read}

pub number_front : (w : ℕ) (s t : List ℕ) (at : ℕ) → at + w ≤ length s → number_at w (s ++ t) at ≡ number_at w s at
unfolding number_at
number_front zero s t at l = refl
number_front (suc w) s t at l = rw (get_or-append s t 0 at (omega arith), number_front w s t (at + 1) (omega arith))

pub taking_most : (w : ℕ) (p : Bool) → taking w p ≤ w
taking_most w true = omega arith
taking_most w false = omega arith

-- the sum of the widths
unfoldable pub total : List ℕ → ℕ
total [] = 0
total (w ∷ ws) = w + total ws

end_most : (ws : List ℕ) (i map at : ℕ) → end_at ws i map at ≤ at + total ws
unfolding end_at total
end_most [] i map at = omega arith
end_most (w ∷ ws) i map at = omega (arith, end_most ws (suc i) map (at + taking w (bit map i)), taking_most w (bit map i))

-- no record is longer
pub end_longest : (s : List ℕ) → end_in s ≤ longest
unfolding end_in widths total
end_longest s = omega (arith, end_most widths 0 (map_at s) 2)

pub end_least : (s : List ℕ) → 2 ≤ end_in s
unfolding end_in
end_least s = end_after widths 0 (map_at s) 2

fields_front : (ws : List ℕ) (i map : ℕ) (s t : List ℕ) (at : ℕ) → end_at ws i map at ≤ length s → fields_at ws i map (s ++ t) at ≡ fields_at ws i map s at
unfolding fields_at end_at
fields_front [] i map s t at l = refl
fields_front (w ∷ ws) i map s t at l =
    let e = end_after ws (suc i) map (at + taking w (bit map i)) in
    rw (first (bit map i) (omega arith), fields_front ws (suc i) map s t (at + taking w (bit map i)) l)
  where
    first : (p : Bool) → at + taking w p ≤ length s → cond p (number_at w (s ++ t) at) 0 ≡ cond p (number_at w s at) 0
    first true f = number_front w s t at f
    first false f = refl

pub map_front : (s t : List ℕ) → 2 ≤ length s → map_at (s ++ t) ≡ map_at s
map_front s t l = number_front 2 s t 0 (omega arith)

module _ (s t : List ℕ) (whole : end_in s ≤ length s) where
  map_same : map_at (s ++ t) ≡ map_at s
  map_same = map_front s t (omega (arith, end_least s))

  fields_same : fields_in (s ++ t) ≡ fields_in s
  unfolding fields_in end_in
  fields_same = rw map_same (fields_front widths 0 (map_at s) s t 2 whole)

  end_same : end_in (s ++ t) ≡ end_in s
  unfolding end_in
  end_same = rw map_same

  refuses_same : reader_refuses (s ++ t) 1 ≡ reader_refuses s 1
  unfolding reader_refuses
  refuses_same =
      let n : length (s ++ t) ≡ length s + length t = length-append s t in
      let two = end_least s in
      rw (
        fields_same,
        end_same,
        map_same,
        le-ltb (length (s ++ t)) 2 (omega arith),
        le-ltb (length (s ++ t)) (end_in s) (omega arith),
        le-ltb (length s) 2 (omega arith),
        le-ltb (length s) (end_in s) whole,
      )

  pub whole_same : reading (s ++ t) ≡ reading s
  whole_same = reading_by (s ++ t) (reader_refuses s 1) refuses_same ∙ rw (fields_same, end_same) (sym (reading_by s (reader_refuses s 1) refl))

-- ---- read or refused

pub accepts : (s : List ℕ) → is_read s ≡ true → reader_refuses s 1 ≡ false
accepts s e = reader_accepts s (eqb-true (reading s).reply.number 0 e)

pub is_read_by : (s : List ℕ) (t : Bool) → reader_refuses s 1 ≡ t → is_read s ≡ eqb (cond t 1 0) 0
is_read_by s t e = ap (λ (r : RecordReply). eqb r.reply.number 0) (reading_by s t e)

pub is_read_lem : (s : List ℕ) → reader_refuses s 1 ≡ false → is_read s ≡ true
is_read_lem s e = is_read_by s false e

pub refuses : (s : List ℕ) → is_read s ≡ false → reader_refuses s 1 ≡ true
refuses s e = go (reader_refuses s 1) refl
  where
    go : (t : Bool) → reader_refuses s 1 ≡ t → t ≡ true
    go true r = refl
    go false r = sym e ∙ is_read_lem s r

-- two that are refused are answered alike
pub refused_alike : (s t : List ℕ) → is_read s ≡ false → is_read t ≡ false → reading s ≡ reading t
refused_alike s t p q = reading_by s true (refuses s p) ∙ sym (reading_by t true (refuses t q))

pub read_whole : (s : List ℕ) → is_read s ≡ true → end_in s ≤ length s
read_whole s e = (readable s (accepts s e)).ends
