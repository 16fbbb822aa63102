-- `dayrun_records::open_book` meets its contract.
-- Assumes nothing.
use Rattle.dayrun_records.proofs.Opening.{started}
use Rattle.dayrun_records.proofs.open_book.Goals as goal

pub returns : goal.returns
returns c = started c.open_day.ensures c.add_direction.ensures c.add_party.ensures
