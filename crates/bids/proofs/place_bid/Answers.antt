-- `bids::place_bid` meets its contract.
-- Assumes nothing.
use Rattle.cells.proofs.Views.{lent_cells}
use Rattle.bids.proofs.Placing.{entry_same, placed}
use Rattle.bids.proofs.place_bid.Goals as goal

pub take_mw-number-requires : goal.take_mw-number-requires
take_mw-number-requires c = entry_same c.requires (lent_cells c.told-book c.fits-book) c.grant_hours.ensures

pub returns : goal.returns
returns c = placed c.requires (lent_cells c.told-book c.fits-book) c.grant_hours.ensures c.take_mw-number.ensures c.set_clock.ensures
