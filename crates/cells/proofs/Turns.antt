-- The turn and the end of a loop of stores that counts k up to n.
-- Assumes nothing.
use mathlib.Core.Path.{◌≡◌}
use Prim.Native.Nat.{ℕ, suc, ◌+◌, ◌-◌, ◌≤◌, ◌<◌}
use native.Mathlib.Omega.{arith}
use Rattle.cells.specs.Loops.{repeated}

one_more : (n k : ℕ) → k < n → n - k ≡ suc (n - (k + 1))
one_more n k h = omega arith

none_left : (n k : ℕ) → n ≤ k → n - k ≡ 0
none_left n k h = omega arith

from_zero : (n : ℕ) → n - 0 ≡ n
from_zero n = omega arith

module _ {A : Type 0} where
  pub repeated_start : (f : ℕ → A → A) (n : ℕ) (a : A) → repeated f n 0 a ≡ repeated f (n - 0) 0 a
  repeated_start f n a = rw (from_zero n)

  pub repeated_next : (f : ℕ → A → A) (n k : ℕ) (a : A) → k < n → repeated f (n - k) k a ≡ repeated f (n - (k + 1)) (k + 1) (f k a)
  unfolding repeated
  repeated_next f n k a h = rw (one_more n k h)

  pub repeated_done : (f : ℕ → A → A) (n k : ℕ) (a : A) → n ≤ k → repeated f (n - k) k a ≡ a
  unfolding repeated
  repeated_done f n k a h = rw (none_left n k h)
