use Rattle.std.proofs.Common.{length}
use Rattle.rehearse_lines.proofs.request.Request.take_directions.Given as goal

abbrev pub decreases-loop-direction : goal.decreases-loop-direction
decreases-loop-direction l = length l.rest
