-- `bids::bid` meets its contract.
-- Assumes nothing.
use Rattle.std.proofs.lemmas.Result.{err_from_is_err_and}
use Rattle.answers.proofs.Laws.{refused, granted}
use Rattle.bids.proofs.bid.Goals as goal

pub returns-in_err-booking : goal.returns-in_err-booking
returns-in_err-booking c = let p = err_from_is_err_and c.from_residual.result c.from_residual.ensures.1 in rw (p.1, p.2) (refused _ _ _ c.in_err-booking.ensures)

pub returns : goal.returns
returns c = granted _ _ _ _ c.in_ok-booking.ensures.clear c.place_bid.ensures.number_is c.place_bid.ensures.book_is
