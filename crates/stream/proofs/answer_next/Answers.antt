-- `stream::answer_next` meets its contract.
-- Assumes nothing.
use Rattle.std.proofs.Common.{refl}
use Rattle.stream.proofs.Answering.{TakenFrom, answers_next}
use Rattle.stream.proofs.answer_next.Goals as goal
use Rattle.stream.proofs.answer_next.Goals.{in-Ok, in-Err}

pub returns : goal.returns
returns g c =
    let taken : TakenFrom c.args.buffers.now c.take_record.result c.match-take_record.buffers c.match-take_record.answer = elim c.match-take_record.branch [
      | in-Ok w ↦ rw (w.in-Ok.is, w.buffers-is, w.answer-is, w.take.ensures) (refl, refl)
      | in-Err w ↦ rw (w.in-Err.is, w.buffers-is, w.answer-is) (refl, refl)
    ] in
    answers_next _ _ c.take_record.result _ (rw (← c.bytes.ensures) c.take_record.ensures) _ _ taken _ c.numbers-reply.ensures _ c.write_line.ensures.text
