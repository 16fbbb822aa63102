-- `Buffers::read_more` meets its contract.
-- Assumes nothing.
use Rattle.std.proofs.Common.{refl, length-take-le}
use Rattle.dayrun_progress.proofs.Buffers.read_more.Goals as goal

pub returns : goal.returns
returns g c =
    let read = c.read_more-count.ensures in
    record { count = c.read_more-count.result; brings = read; received = rw (read.behind, length-take-le c.read_more-count.result read.part read.some) refl }
