-- A party that has a code.
-- Assumes nothing.
use Rattle.std.specs.Prelude.{ℕ, Bool, List}
use Rattle.rules.specs.Basics.{same}
use Rattle.rules.specs.Book.{Party}

abbrev pub same_code : List ℕ → Party → Bool
same_code code x = same x.code code
