-- The sum of a list of numbers.
-- Assumes nothing.
use Rattle.std.specs.Prelude.{sum}
use Rattle.std.proofs.lemmas.List.Sums.{sum_by-cons}
use Prim.Native.Nat.{ℕ, ◌+◌}
use mathlib.Core.Path.{◌≡◌}
use mathlib.Core.List.{List, ◌∷◌}

pub sum_more : (m : ℕ) (ms : List ℕ) → sum (m ∷ ms) ≡ m + sum ms
sum_more m ms = sum_by-cons (λ (x : ℕ). x) m ms
