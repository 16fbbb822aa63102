-- `answers::right_in` meets its contract.
-- Assumes nothing.
use borrow.Author.Tests.{true-ltb}
use Rattle.answers.proofs.Entries.{right_found}
use Rattle.answers.proofs.right_in.Goals as goal

pub returns : goal.returns
returns c = let found = c.in_ok-row.ensures.lookup in let key = c.of_row-key.ensures in
    right_found _ _ _ c.rights.ensures _ _ _ _ _ (true-ltb _ _ found.0) found.1 key.holder key.direction key.session c.mw_of.ensures
