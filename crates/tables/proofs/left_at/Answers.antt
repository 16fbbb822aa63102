-- `tables::left_at` meets its contract.
-- Assumes nothing.
use Rattle.cells.proofs.Views.{left_at_lem}
use Rattle.tables.proofs.left_at.Goals as goal

pub returns : goal.returns
returns c = rw (c.saturating_sub.ensures, c.granted_at.ensures, c.offered_at.ensures, left_at_lem c.args.book.now _ _ c.args.at.in_tables)
