-- `Unread::take` meets its contract.
-- Assumes nothing.
use Rattle.std.proofs.Common.{List, ℕ, length, drop, ap, ◌∙◌, arith}
use Rattle.dayrun_progress.proofs.Windows.{length-window, taken}
use Rattle.dayrun_progress.proofs.unread.Unread.take.Goals as goal

pub returns : goal.returns
returns g c =
    let u = c.self.inside in
    let size = length-window u.buffer u.from u.to (c.self.invariant.1) in
    let same = ap length c.self.view_is in
    taken u.buffer u.from u.to c.args.count (omega arith) ∙ ap (λ (s : List ℕ). drop c.args.count s) c.self.view_is
