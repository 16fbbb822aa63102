-- `matching::place_match` meets its contract.
-- Assumes nothing.
use Rattle.cells.proofs.Views.{lent_cells}
use mathlib.Core.Path.{refl, ◌∙◌}
use native.Mathlib.Omega.{arith}
use Rattle.matching.proofs.Placing.{match_there}
use Rattle.matching.proofs.place_match.Goals as goal

pub set_matched-requires : goal.set_matched-requires
set_matched-requires c = let k = match_there _ _ _ _ c.requires in omega arith

pub returns : goal.returns
returns c = record {
  cells = lent_cells c.told-book c.fits-book;
  count_is = c.count_rights-count.ensures;
  cells_are = c.set_clock.ensures ∙ rw c.set_matched.ensures refl;
}
