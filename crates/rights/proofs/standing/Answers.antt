-- `rights::standing` meets its contract.
-- It reads like that of `pairs::standing_pair`: it cites what is named after this function, which a shared law can't take over.
-- Assumes nothing.
use Rattle.std.proofs.Common.{◌≡◌, sym, ◌∙◌, rules, tests, arith}
use Rattle.std.proofs.lemmas.Iterator.{YieldsList-from_slice}
use Rattle.std.proofs.lemmas.Iterator.Search.{position_from_yields_List}
use Rattle.rules.specs.Bids.{is_right_of}
use Rattle.cells.specs.View.{right_read}
use Rattle.rights.specs.Work.{standing_right}
use Rattle.rights.proofs.Rights.{is_right, row_found, found_at}
use Rattle.rights.proofs.standing.Goals.{After-position}
use Rattle.rights.proofs.standing.Goals as goal

found : (c : After-position) → c.position.result ≡ standing_right c.args.book.now c.args.key
unfolding is_right_of
found c =
    row_found c.args.book.now c.args.key c.rights-rows.ensures
    (position_from_yields_List (λ row. is_right c.args.key (right_read row)) _ _ _ c.position.ensures.ran (YieldsList-from_slice _ c.iter.ensures.rest) (λ x b q k. (search rules, search (rules, tests))))

pub returns-in_err-number : goal.returns-in_err-number
returns-in_err-number c = c.from_residual.ensures ∙ sym c.in_err-number.was ∙ found (goal.at.returns-in_err-number c).After-position

pub overflow_cast-result : goal.overflow_cast-result
overflow_cast-result c =
    let there = found_at _ c.args.key _ (sym (found (goal.at.overflow_cast-result c).After-position) ∙ c.in_ok-number.was) in
    record { fits = omega (arith, there.1) }

pub returns : goal.returns
returns c = sym c.in_ok-number.was ∙ found (goal.at.returns c).After-position
