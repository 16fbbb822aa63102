-- 01, Set-up: entries that clash with a new one.
-- Assumes nothing.
use Rattle.std.specs.Prelude.{ℕ, Bool, false, ◌||◌, ◌&&◌, not, List, [], ◌∷◌, ◌==◌}
use Rattle.rules.specs.Basics.{same}
use Rattle.rules.specs.Book.{Direction, Party}

-- same operators in order, or opposite order under the other model
unfoldable pub direction_taken : ℕ → ℕ → ℕ → List Direction → Bool
direction_taken o i m [] = false
direction_taken o i m (x ∷ xs) =
    (x.out == o && x.into == i)
    || (x.out == i && x.into == o && not (x.model == m))
    || direction_taken o i m xs

-- same code
unfoldable pub code_taken : List ℕ → List Party → Bool
code_taken code [] = false
code_taken code (x ∷ xs) = same x.code code || code_taken code xs
