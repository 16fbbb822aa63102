-- A direction of the table that clashes with a new one.
-- Assumes nothing.
use Rattle.std.specs.Prelude.{ℕ, Bool, ◌||◌, ◌&&◌, not, ◌==◌}
use Rattle.rules.specs.Book.{Direction}

-- the operators of a direction, in order
abbrev pub same_operators : Direction → ℕ → ℕ → Bool
same_operators x o i = x.out == o && x.into == i

-- 01, Set-up: the same operators in order, or in opposite order under the other model
unfoldable pub clashes : ℕ → ℕ → ℕ → Direction → Bool
clashes o i m x = same_operators x o i || (same_operators x i o && not (x.model == m))
