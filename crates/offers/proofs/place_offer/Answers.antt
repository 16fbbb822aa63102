-- `offers::place_offer` meets its contract.
-- Assumes nothing.
use Rattle.cells.proofs.Views.{lent_cells}
use mathlib.Core.Path.{◌∙◌}
use Rattle.offers.proofs.place_offer.Goals as goal

pub returns : goal.returns
returns c = record {
  cells = lent_cells c.told-book c.fits-book;
  left_is = c.saturating_sub.ensures ∙ rw c.granted_at-granted.ensures;
  cells_are = c.set_clock.ensures ∙ rw c.set_offered.ensures;
}
