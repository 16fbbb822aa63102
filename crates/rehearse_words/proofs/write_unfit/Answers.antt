-- `write_unfit` meets its contract.
-- Assumes nothing.
use Rattle.rehearse_words.proofs.Showing.{on_ok, unfit_written}
use Rattle.rehearse_words.proofs.write_unfit.Goals as goal

pub returns-in_ok-write_shown-in_default : goal.returns-in_ok-write_shown-in_default
returns-in_ok-write_shown-in_default g c =
    on_ok c.writeln-in_default.result
    (unfit_written _ _ _ c.args.line.now c.args.unfit c.in_default.not-TooLong c.in_ok-write_shown-in_default.ensures)
    c.writeln-in_default.ensures.bytes
