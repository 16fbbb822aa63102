-- `cells::Table::rows` meets its contract.
-- Assumes nothing.
use Rattle.std.proofs.Common.{◌∙◌}
use Rattle.cells.proofs.Entries.{rows_cut}
use Rattle.cells.proofs.Table.rows.Goals as goal

pub returns : goal.returns
returns g c =
    let table = c.args.self.now in
    c.as_chunks.ensures.front ∙ rows_cut c.args.book.now table.at g.row.WIDTH c.count.result table.limit table.wide c.count.ensures (rw c.told-book table.inside)
