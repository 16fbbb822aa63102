-- `Numbers` are written as `row_text` says.
-- Assumes nothing.
use Rattle.std.proofs.Common.{refl}
use Rattle.std.proofs.Output.{has_written_append, has_written_of_eq}
use Rattle.rehearse_text.proofs.Rows.{row_of_first, row_of_one_more, row_of_all}
use Rattle.rehearse_text.proofs.row.NumbersDisplay.fmt.Goals as goal

pub loop-value-init : goal.loop-value-init
loop-value-init g c = λ plain.
    has_written_of_eq g.W.Write.write_str_gives _ _ _ _ (row_of_first _ _ refl c.in-len1-up.len_at_least)
    (c.in_ok-write.ensures.writes plain refl)

pub loop-value-preserved : goal.loop-value-preserved
loop-value-preserved g c = λ plain.
    let before = c.loop-value.invariant plain in
    has_written_of_eq g.W.Write.write_str_gives _ _ _ _ (row_of_one_more _ _ _ refl c.loop-value-test.true)
    (has_written_append g.W.Write.write_str_gives _ _ _ _ _ before (c.in_ok-write-2.ensures.writes before.plain refl))

pub returns-clause-writes : goal.returns-clause-writes
returns-clause-writes g c = λ plain done.
    has_written_of_eq g.W.Write.write_str_gives _ _ _ _ (row_of_all _ _ _ refl c.loop-value-test.false) (c.loop-value.invariant plain)
