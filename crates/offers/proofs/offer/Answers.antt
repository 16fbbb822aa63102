-- `offers::offer` meets its contract.
-- Assumes nothing.
use Rattle.std.proofs.lemmas.Result.{err_from_is_err_and}
use Rattle.answers.proofs.Laws.{refused}
use Rattle.offers.proofs.Offers.{offer_answers}
use Rattle.offers.proofs.offer.Goals as goal

pub returns-in_err-place : goal.returns-in_err-place
returns-in_err-place c = let p = err_from_is_err_and c.from_residual.result c.from_residual.ensures.1 in rw (p.1, p.2) (refused _ _ _ c.in_err-place.ensures)

pub returns : goal.returns
returns c = offer_answers _ _ _ _ c.in_ok-place.place.in_tables c.in_ok-place.ensures c.place_offer.ensures
