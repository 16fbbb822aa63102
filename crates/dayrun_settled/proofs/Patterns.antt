-- The patterns of the kinds are read, and one of them completes the bytes where one of the kinds does.
-- Assumes nothing.
use Prim.Native.Nat.{ℕ, zero, suc}
use mathlib.Core.Path.{◌≡◌, refl}
use mathlib.Core.Bool.{Bool, true, false, ◌||◌, false≢true}
use mathlib.Core.List.{List, [], ◌∷◌, ◌++◌}
use native.Mathlib.Omega.{arith}
use lib.Dec.{ltb}
use lib.ListN.{length, drop, replicate}
use borrow.Author.Tests.{ltb-true}
use Rattle.std.specs.List.{list_any}
use Rattle.rules.specs.Basics.{bit, map_of, has}
use Rattle.rules.specs.Refusals.{order, first_of}
use Rattle.rules.specs.Records.{widths, call_of, kinds, is_kind, stands, standing, bytes_of, number_at, fields_at, end_at, fields_in, end_in, reader_refuses, reading}
use Rattle.rules.proofs.Bools.{and_right}
use Rattle.dayrun_settled.specs.Settled.{is_read, pattern, completed, can_be_read}

-- what holds of the five kinds holds of each
module _ (P : ℕ → Type 0) (p1 : P 1) (p2 : P 2) (p3 : P 3) (p4 : P 4) (p5 : P 5) where
  pub by_kind : (k : ℕ) → is_kind k ≡ true → P k
  by_kind zero e = absurd (false≢true e)
  by_kind (suc zero) e = p1
  by_kind (suc (suc zero)) e = p2
  by_kind (suc (suc (suc zero))) e = p3
  by_kind (suc (suc (suc (suc zero)))) e = p4
  by_kind (suc (suc (suc (suc (suc zero))))) e = p5
  by_kind (suc (suc (suc (suc (suc (suc k)))))) e =
      let n : ℕ = suc (suc (suc (suc (suc (suc k))))) in
      absurd (omega (arith, ltb-true n 6 (and_right (ltb 0 n) (ltb n 6) e)))

-- each kind's pattern is a record, which is computed
pub pattern_read : (k : ℕ) → is_kind k ≡ true → is_read (pattern k) ≡ true
unfolding bit map_of has order first_of widths call_of kinds stands standing bytes_of number_at fields_at end_at fields_in end_in reader_refuses reading pattern
pattern_read = by_kind (λ (k : ℕ). is_read (pattern k) ≡ true) refl refl refl refl refl

-- ---- the table of the patterns

-- that of the code
abbrev pub patterns : List (ℕ × List ℕ)
patterns = (1, 19 ∷ 64 ∷ []) ∷ (2, 35 ∷ 64 ∷ []) ∷ (3, 87 ∷ 0 ∷ []) ∷ (4, 143 ∷ 1 ∷ []) ∷ (5, 83 ∷ 0 ∷ []) ∷ []

abbrev pub read_by : List ℕ → ℕ × List ℕ → Bool
read_by s p = is_read (s ++ drop (length s) (p.1 ++ replicate 22 p.0))

any_of : (a b c d e : Bool) → (a || (b || (c || (d || (e || false))))) ≡ (a || b || c || d || e)
any_of true b c d e = refl
any_of false true c d e = refl
any_of false false true d e = refl
any_of false false false true e = refl
any_of false false false false true = refl
any_of false false false false false = refl

-- one of them completes the bytes, where one of the kinds does
pub any_pattern : (s : List ℕ) → list_any (read_by s) patterns ≡ can_be_read s
unfolding bit map_of has kinds stands standing bytes_of pattern completed can_be_read
any_pattern s = any_of (is_read (completed 1 s)) (is_read (completed 2 s)) (is_read (completed 3 s)) (is_read (completed 4 s)) (is_read (completed 5 s))
