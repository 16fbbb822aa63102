-- `answers::direction_in` meets its contract.
-- Assumes nothing.
use borrow.Author.Tests.{true-ltb}
use Rattle.answers.proofs.Entries.{direction_found}
use Rattle.answers.proofs.direction_in.Goals as goal

pub returns : goal.returns
returns c = let found = c.in_ok-row.ensures.lookup in
    direction_found _ _ _ c.directions.ensures _ c.from.result (true-ltb _ _ found.0) found.1 c.from.ensures
