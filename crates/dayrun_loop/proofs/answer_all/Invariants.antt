-- Each turn is the step that comes next.
use Rattle.dayrun_loop.specs.Steps.{state_of, Turns}
use Rattle.dayrun_loop.proofs.answer_all.Given as goal

abbrev pub invariant-loop-turn : goal.invariant-loop-turn
invariant-loop-turn g l = Turns l._turn (state_of l.book l.buffers)
