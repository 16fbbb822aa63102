-- So many numbers are written.
use Rattle.std.proofs.Common.{suc, take}
use Rattle.std.specs.Fmt.{IsPlainFormatter, HasWritten}
use Rattle.rehearse_text.specs.Rows.{numbers_in, row_text}
use Rattle.rehearse_text.proofs.row.NumbersDisplay.fmt.Given as goal

abbrev pub invariant-loop-value : goal.invariant-loop-value
invariant-loop-value g l =
    IsPlainFormatter l.fn.f → HasWritten g.W.Write.write_str_gives l.fn.f (row_text (take (suc l.value-index) (numbers_in l.fn.self))) l.f
