-- `rights::RightOfBid::entry` meets its contract.
-- Assumes nothing.
use mathlib.Core.Path.{sym, ap, ◌∙◌}
use Rattle.std.proofs.lemmas.Result.{err_from_is_err_and}
use Rattle.answers.proofs.Laws.{refused_with}
use Rattle.rights.specs.Work.{entry_of, entry_in}
use Rattle.rights.proofs.RightOfBid.entry.Goals as goal

pub returns-then-not-is_full : goal.returns-then-not-is_full
unfolding entry_in
returns-then-not-is_full c = rw (← c.is_full.ensures, c.if-not-is_full.true)

pub returns-in_err-right : goal.returns-in_err-right
unfolding entry_in
returns-in_err-right c =
    let p = err_from_is_err_and c.from_residual.result c.from_residual.ensures.1 in
    let none = c.in_err-right.ensures in
    rw (p.1, p.2, refused_with _ _ _ none.value none.ok_part, ← c.is_full.ensures, c.if-not-is_full.false) (ap entry_of (sym none.ok_part ∙ c.standing.ensures))

pub returns : goal.returns
unfolding entry_in
returns c = rw (← c.is_full.ensures, c.if-not-is_full.false) (ap entry_of (sym c.in_ok-right.ensures.ok_part ∙ c.standing.ensures))
