-- What a row of a table holds.
-- Assumes nothing.
use Rattle.rules.specs.Book.{Direction}
use Rattle.tables.specs.declared.Direction.{Direction as DirectionRead}

-- a direction as the rules have it
abbrev pub direction_of : DirectionRead → Direction
direction_of x = record { out = x.out; into = x.into; model = x.model }
