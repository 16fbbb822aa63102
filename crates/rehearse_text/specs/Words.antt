-- Where a word of a line ends.
-- Assumes nothing.
use Rattle.std.specs.Prelude.{ℕ, Bool, true, ◌==◌, ◌||◌, List, [], ◌∷◌}

-- the line's end, a space, a comma, a hyphen or a colon
abbrev pub is_at_break : List ℕ → Bool
is_at_break [] = true
is_at_break (b ∷ rest) = b == 32 || b == 44 || b == 45 || b == 58
