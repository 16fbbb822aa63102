-- `tables::is_matched` meets its contract.
-- Assumes nothing.
use borrow.Author.Tests.{le-ltb}
use Rattle.rules.specs.Refusals.{is_matched}
use Rattle.cells.proofs.Views.{matched_at, matched_past}
use Rattle.tables.proofs.is_matched.Goals as goal

pub returns-then-at-lt-FLAGS : goal.returns-then-at-lt-FLAGS
unfolding is_matched
returns-then-at-lt-FLAGS c = let l = rw c.flag_of-at.ensures at c.if-at-lt-FLAGS.true in
    rw (c.flag_of-at.ensures, matched_at _ _ l)

pub returns-else-at-lt-FLAGS : goal.returns-else-at-lt-FLAGS
unfolding is_matched
returns-else-at-lt-FLAGS c = let l = rw c.flag_of-at.ensures at c.if-at-lt-FLAGS.false in
    rw (c.flag_of-at.ensures, matched_past _ _ l, le-ltb _ _ l)
