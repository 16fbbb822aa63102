use Rattle.std.proofs.Common.{length}
use Rattle.rehearse_lines.proofs.request.numbers_expected.Given as goal

abbrev pub decreases-loop-number : goal.decreases-loop-number
decreases-loop-number l = length l.rest
