-- `answers::access_in` meets its contract.
-- Assumes nothing.
use borrow.Author.Tests.{true-ltb}
use Rattle.answers.proofs.Entries.{access_found}
use Rattle.answers.proofs.access_in.Goals as goal

pub returns : goal.returns
returns c = let found = c.in_ok-row.ensures.lookup in
    access_found _ _ _ c.parties.ensures _ (true-ltb _ _ found.0) found.1
