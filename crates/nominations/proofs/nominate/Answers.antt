-- `nominations::nominate` meets its contract.
-- Assumes nothing.
use Rattle.std.proofs.lemmas.Result.{err_from_is_err_and}
use Rattle.answers.proofs.Laws.{refused}
use Rattle.nominations.proofs.Placing.{nomination_answers}
use Rattle.nominations.proofs.nominate.Goals as goal

pub returns-in_err-entry : goal.returns-in_err-entry
returns-in_err-entry c = let p = err_from_is_err_and c.from_residual.result c.from_residual.ensures.1 in rw (p.1, p.2) (refused _ _ _ c.in_err-entry.ensures)

pub returns : goal.returns
returns c = nomination_answers _ _ c.args.call _ c.in_ok-entry.ensures.clear c.place_nomination.ensures
