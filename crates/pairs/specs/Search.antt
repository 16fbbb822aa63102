-- The search for the pair of a right, an out party and an in party.
-- Assumes nothing.
use Rattle.std.specs.Prelude.{Option, ℕ, List}
use Rattle.std.specs.List.{position}
use Rattle.rules.specs.Nominations.{is_pair_of}
use Rattle.cells.specs.View.{book_of}
use Rattle.pairs.specs.declared.PairKey.{PairKey}

-- 01, Nominations and matching: the number of the first pair of a right, an out party and an in party
unfoldable pub standing_pair : List ℕ → PairKey → Option ℕ
standing_pair b key = position (is_pair_of key.right key.out key.into) (book_of b).pairs
