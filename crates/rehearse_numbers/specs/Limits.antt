-- Which numbers a field holds.
-- Assumes nothing.
use Rattle.std.specs.Prelude.{ℕ}
use Rattle.rehearse_numbers.specs.declared.fields.Width.{Width}
use Rattle.rehearse_numbers.specs.declared.fields.Width.TheVariants.{OneByte, TwoBytes, FourBytes, MapPlace}

-- a field's numbers are below this: of 1, 2 or 4 bytes, or the number of a direction in a map
abbrev pub limit_of : Width → ℕ
limit_of OneByte = 256
limit_of TwoBytes = 65536
limit_of FourBytes = 4294967296
limit_of MapPlace = 32
