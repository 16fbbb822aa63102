-- `pairs::standing_pair` meets its contract.
-- It reads like that of `rights::standing`: it cites what is named after this function, which a shared law can't take over.
-- Assumes nothing.
use Rattle.std.proofs.Common.{◌≡◌, sym, ◌∙◌, rules, tests, arith}
use Rattle.std.proofs.lemmas.Iterator.{YieldsList-from_slice}
use Rattle.std.proofs.lemmas.Iterator.Search.{position_from_yields_List}
use Rattle.rules.specs.Nominations.{is_pair_of}
use Rattle.cells.specs.View.{pair_read}
use Rattle.pairs.specs.Search.{standing_pair}
use Rattle.pairs.proofs.Searches.{is_pair, Standing, row_found, standing_at}
use Rattle.pairs.proofs.standing_pair.Goals.{After-position}
use Rattle.pairs.proofs.standing_pair.Goals as goal

found : (c : After-position) → c.position.result ≡ standing_pair c.args.book.now c.args.key
unfolding is_pair_of
found c =
    row_found c.args.book.now c.args.key c.pairs-rows.ensures
    (position_from_yields_List (λ row. is_pair c.args.key (pair_read row)) _ _ _ c.position.ensures.ran (YieldsList-from_slice _ c.iter.ensures.rest) (λ x b q k. search (rules, tests)))

pub returns-in_err-number : goal.returns-in_err-number
returns-in_err-number c = c.from_residual.ensures ∙ sym c.in_err-number.was ∙ found (goal.at.returns-in_err-number c).After-position

pub overflow_cast-result : goal.overflow_cast-result
overflow_cast-result c =
    let there : Standing c.args.book.now c.args.key c.in_ok-number.number = standing_at _ _ _ (sym (found (goal.at.overflow_cast-result c).After-position) ∙ c.in_ok-number.was) in
    let most = there.most in
    record { fits = omega arith }

pub returns : goal.returns
returns c = sym c.in_ok-number.was ∙ found (goal.at.returns c).After-position
