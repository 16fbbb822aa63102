-- So many digits are written.
use Rattle.std.proofs.Common.{◌++◌, take}
use Rattle.std.specs.Char.{encode_utf8}
use Rattle.std.specs.Fmt.{IsPlainFormatter, HasWritten}
use Rattle.std.specs.List.{flat_map}
use lib.Chars.{codes}
use Rattle.rehearse_lines.proofs.unfit.UnfitDisplay.fmt.Given as goal

abbrev pub invariant-loop-digit : goal.invariant-loop-digit
invariant-loop-digit g l =
    IsPlainFormatter l.fn.f → HasWritten g.W.Write.write_str_gives l.fn.f (codes "too large: " ++ flat_map encode_utf8 (take l.digit-index l.shown)) l.f
