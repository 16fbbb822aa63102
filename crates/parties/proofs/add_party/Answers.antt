-- `parties::add_party` meets its contract.
-- Assumes nothing.
use Rattle.cells.proofs.Views.{lent_cells}
use Rattle.std.proofs.Common.{rules}
use Rattle.std.proofs.lemmas.Result.{err_from_is_err_and}
use Rattle.answers.proofs.Laws.{refused}
use Rattle.setup.proofs.Adding.{adds_party, room, answers_number}
use Rattle.parties.proofs.add_party.Goals as goal

pub returns-in_err-party_verdict : goal.returns-in_err-party_verdict
returns-in_err-party_verdict c = let p = err_from_is_err_and c.from_residual.result c.from_residual.ensures.1 in rw (p.1, p.2) (refused _ _ _ c.in_err-party_verdict.ensures)

pub place_row-requires : goal.place_row-requires
place_row-requires c = let l = room (adds_party _ _ _ _ (search rules) c.row.ensures) c.in_ok-party_verdict.ensures in search rules

pub returns : goal.returns
returns c = answers_number (adds_party _ _ _ _ (search rules) c.row.ensures) c.in_ok-party_verdict.ensures (lent_cells c.told-book c.fits-book) c.place_row.ensures.number c.place_row.ensures.cells
