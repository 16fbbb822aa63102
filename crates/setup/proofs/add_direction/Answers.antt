-- `setup::add_direction` meets its contract.
-- Assumes nothing.
use Rattle.std.proofs.Common.{rules}
use Rattle.std.proofs.lemmas.Result.{err_from_is_err_and}
use Rattle.cells.proofs.Views.{lent_cells}
use Rattle.answers.proofs.Laws.{refused}
use Rattle.setup.proofs.Adding.{adds_direction_lem, room, answers_number}
use Rattle.setup.proofs.add_direction.Goals as goal

pub returns-in_err-direction_verdict : goal.returns-in_err-direction_verdict
returns-in_err-direction_verdict c = let p = err_from_is_err_and c.from_residual.result c.from_residual.ensures.1 in rw (p.1, p.2) (refused _ _ _ c.in_err-direction_verdict.ensures)

pub place_row-requires : goal.place_row-requires
place_row-requires c = let l = room (adds_direction_lem _ _ _ _) c.in_ok-direction_verdict.ensures in search rules

pub returns : goal.returns
returns c = answers_number (adds_direction_lem _ _ _ _) c.in_ok-direction_verdict.ensures (lent_cells c.told-book c.fits-book) c.place_row.ensures.number c.place_row.ensures.cells
