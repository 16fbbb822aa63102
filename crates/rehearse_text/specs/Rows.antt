-- Numbers in a row, and how they are printed.
-- Assumes nothing.
use Rattle.std.specs.Prelude.{ℕ, List, [], ◌∷◌, ◌++◌, take}
use Rattle.std.specs.Fmt.{decimal}
use Rattle.rehearse_text.specs.declared.row.Numbers.{Numbers}

abbrev pub numbers_in : Numbers → List ℕ
numbers_in row = take row.count row.values

-- each with a space before it
unfoldable pub row_after : List ℕ → List ℕ
row_after [] = []
row_after (n ∷ ns) = (32 ∷ decimal n) ++ row_after ns

-- with a space between two of them
abbrev pub row_text : List ℕ → List ℕ
row_text [] = []
row_text (n ∷ ns) = decimal n ++ row_after ns
