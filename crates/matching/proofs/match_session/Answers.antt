-- `matching::match_session` meets its contract.
-- Assumes nothing.
use Rattle.std.proofs.lemmas.Result.{err_from_is_err_and}
use Rattle.answers.proofs.Laws.{refused}
use Rattle.matching.proofs.Placing.{match_answers}
use Rattle.matching.proofs.match_session.Goals as goal

pub returns-in_err-match_verdict : goal.returns-in_err-match_verdict
returns-in_err-match_verdict c = let p = err_from_is_err_and c.from_residual.result c.from_residual.ensures.1 in rw (p.1, p.2) (refused _ _ _ c.in_err-match_verdict.ensures)

pub returns : goal.returns
returns c = match_answers _ _ _ _ c.in_ok-match_verdict.ensures c.place_match.ensures
