-- `write_shown` meets its contract.
-- Assumes nothing.
use Rattle.rehearse_words.proofs.Showing.{shown_last, shown_on}
use Rattle.std.proofs.Common.{arith}
use Rattle.rehearse_words.proofs.write_shown.Goals as goal

pub loop-after-preserved : goal.loop-after-preserved
loop-after-preserved g c = λ end more.
    c.loop-after.invariant end
    (shown_on c.loop-after.rest.now c.split_at.result.0.now c.split_at.result.1.now _ c.printable_in.ensures.count c.split_at.ensures.front c.split_at.ensures.back
    _ _ _ _ c.in-len1-up.len_at_least c.in_ok-write_all.ensures.bytes c.in_ok-write_all-2.ensures.bytes more)

pub returns-in_default : goal.returns-in_default
returns-in_default g c =
    let last = shown_last c.loop-after.rest.now c.split_at.result.0.now c.split_at.result.1.now _ c.printable_in.ensures.count c.split_at.ensures.front c.split_at.ensures.back (omega arith) in
    c.loop-after.invariant _ (rw (← last) c.in_ok-write_all.ensures.bytes)
