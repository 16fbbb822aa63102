-- `Unread::read_more` meets its contract.
-- Assumes nothing.
use Rattle.std.proofs.Common.{◌≡◌, ◌≤◌, ◌-◌, List, ℕ, ◌++◌, length, take, ap, ◌∙◌, arith, rules}
use Rattle.dayrun_progress.proofs.Windows.{length-window, moved_on}
use Rattle.dayrun_progress.proofs.unread.Unread.read_more.Goals as goal

pub returns : goal.returns
returns g c =
    let u = c.self.inside in
    let size = length-window u.buffer u.from u.to c.self.invariant.1 in
    let same = ap length c.self.view_is in
    let part : length c.read.new.buf ≡ length u.buffer - (u.to - u.from) = omega (arith, c.read.auto.buf) in
    let few : c.unwrap_or-count.result ≤ length c.read.new.buf = search rules in
    record {
      part = c.read.new.buf;
      room = omega arith;
      some = few;
      behind = rw c.copy_within.ensures.after
          (moved_on u.buffer c.read.new.buf u.from u.to _ c.unwrap_or-count.result c.self.invariant.0 c.self.invariant.1 few ∙ ap (λ (s : List ℕ). s ++ take c.unwrap_or-count.result c.read.new.buf) c.self.view_is);
    }
