-- `dayrun_records::take_record` meets its contract.
-- Assumes nothing.
use Rattle.std.proofs.lemmas.Result.{err_from_is_err_and}
use Rattle.dayrun_records.proofs.Taking.{when_read, when_refused}
use Rattle.dayrun_records.proofs.take_record.Goals as goal

pub returns-in_err-read : goal.returns-in_err-read
returns-in_err-read c = let p = err_from_is_err_and c.from_residual.result c.from_residual.ensures.1 in rw (p.1, p.2) (when_refused _ _ _ c.in_err-read.ensures)

pub returns : goal.returns
returns c = when_read _ _ _ _ _ c.in_ok-read.ensures c.answer_record.ensures
