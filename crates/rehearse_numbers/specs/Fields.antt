-- The number at a place of a line's numbers, as a field holds it.
-- Assumes nothing.
use Rattle.std.specs.Prelude.{ℕ, ◌%◌, List, get_or}

-- in a field of so many numbers
abbrev pub field_at : ℕ → List ℕ → ℕ → ℕ
field_at size given k = get_or given k 0 % size

-- in a field of one byte
abbrev pub byte_at : List ℕ → ℕ → ℕ
byte_at = field_at 256

-- in a field of two bytes
abbrev pub two_at : List ℕ → ℕ → ℕ
two_at = field_at 65536

-- in a field of four bytes
abbrev pub four_at : List ℕ → ℕ → ℕ
four_at = field_at 4294967296
