-- `dayrun_loop::answer_all` meets its contract.
-- Assumes nothing.
use Rattle.std.proofs.Common.{sym, ◌∙◌, true≢false, arith}
use Rattle.dayrun_progress.proofs.Nexts.{answering, few_unread}
use Rattle.dayrun_loop.specs.Steps.{taking, writing, reading, none}
use Rattle.dayrun_loop.proofs.Steps.{arrives, one_more}
use Rattle.dayrun_loop.proofs.answer_all.Goals as goal
use Rattle.dayrun_loop.proofs.answer_all.Goals.{in-Take, in-Write, in-Read}

pub loop-turn-init : goal.loop-turn-init
loop-turn-init g c = rw c.start-buffers.ensures (none _ c.requires)

pub answer_next-requires : goal.answer_next-requires
answer_next-requires g c = let h = answering _ (sym c.what_next-next.ensures ∙ c.in-Take.is) in omega arith

pub read_more-requires : goal.read_more-requires
read_more-requires g c = let few = few_unread _ (omega arith) (sym c.what_next-next.ensures ∙ c.in-Read.is) in omega arith

pub loop-turn-preserved : goal.loop-turn-preserved
loop-turn-preserved g c =
    let turns = c.loop-turn.invariant in
    let next = sym c.what_next-next.ensures in
    elim c.match-next.branch [
      | in-Take w ↦ rw (w.book-is, w.buffers-is) (one_more _ _ _ _ turns (next ∙ w.in-Take.is) (taking _ _ _ w.answer_next.ensures))
      | in-Write w ↦ rw (w.book-is, w.buffers-is) (one_more _ _ _ _ turns (next ∙ w.in-Write.is) (writing _ _ w.write_lines.ensures))
      | in-Read w ↦ rw (w.book-is, w.buffers-is) (one_more _ _ _ _ turns (next ∙ w.in-Read.is) (reading _ _ w.read_more.ensures))
    ]

pub returns-in-End : goal.returns-in-End
returns-in-End g c =
    record {
      room_for_line = omega arith;
      buffers = c.loop-turn.buffers;
      turns = c.loop-turn._turn;
      taken = c.loop-turn.invariant;
      arrives = arrives _ _ c.loop-turn.invariant;
      ends = λ _. sym c.what_next-next.ensures ∙ c.in-End.is;
      all = λ h. absurd (true≢false h);
    }

pub returns : goal.returns
returns g c =
    record {
      room_for_line = omega arith;
      buffers = c.loop-turn.buffers;
      turns = c.loop-turn._turn;
      taken = c.loop-turn.invariant;
      arrives = arrives _ _ c.loop-turn.invariant;
      ends = λ h. absurd (true≢false (sym h));
      all = λ _. omega (arith, c.loop-turn.auto._turn-end);
    }
