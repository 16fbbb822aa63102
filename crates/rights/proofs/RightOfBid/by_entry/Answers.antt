-- `rights::RightOfBid::by_entry` meets its contract.
-- Assumes nothing.
use Rattle.std.proofs.Common.{ℕ, ◌≡◌, refl, sym, ◌∙◌, rules}
use Rattle.std.specs.Prelude.{Option, Some, None}
use Rattle.rights.specs.Work.{right_for}
use Rattle.rights.proofs.Rights.{entered_at}
use Rattle.rights.proofs.RightOfBid.by_entry.Goals as goal

pub returns : goal.returns
returns c = go c.args.entry refl
  where
    go : (e : Option ℕ) → c.args.entry ≡ e → c.or_else.result ≡ right_for c.args.book.now c.args.self
    go (Some i) q = let h = rw q at c.or_else.ensures in h ∙ sym (entered_at c.requires i q)
    go None q = let h = rw q at c.or_else.ensures in search rules
