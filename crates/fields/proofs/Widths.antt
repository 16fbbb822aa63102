-- Fields that fit their widths.
-- Assumes nothing.
use Prim.Native.Nat.{ℕ, zero, suc, ◌^◌, ◌<◌}
use mathlib.Core.List.{List, [], ◌∷◌}
use native.Mathlib.Omega.{arith}
use lib.ListN.{get_or}

-- each value is below the power of 256 that its width gives; past the last width all are 0
abbrev pub Fit : List ℕ → List ℕ → Type 0
Fit [] [] = Unit {0}
Fit [] (v ∷ vs) = ⊥
Fit (w ∷ ws) [] = ⊥
Fit (w ∷ ws) (v ∷ vs) = (v < 256 ^ w) × Fit ws vs

pub fit_at : (ws vs : List ℕ) → Fit ws vs → (i : ℕ) → get_or vs i 0 < 256 ^ get_or ws i 0
fit_at [] [] f i = omega arith
fit_at (w ∷ ws) (v ∷ vs) f zero = f.0
fit_at (w ∷ ws) (v ∷ vs) f (suc i) = fit_at ws vs f.1 i
fit_at [] (v ∷ vs) f i = absurd f
fit_at (w ∷ ws) [] f i = absurd f
