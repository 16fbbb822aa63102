-- `setup::direction_taken` meets its contract.
-- Assumes nothing.
use Rattle.std.proofs.Common.{rules, tests, ◌∙◌, refl}
use Rattle.std.proofs.lemmas.Iterator.{YieldsList-from_slice}
use Rattle.std.proofs.lemmas.Iterator.Search.{any_from_yields_List}
use Rattle.rules.specs.Setup.{direction_taken}
use Rattle.cells.specs.View.{direction_read}
use Rattle.cells.proofs.Entries.{directions_are}
use Rattle.setup.specs.Work.{clashes}
use Rattle.setup.proofs.Searches.{taken_any}
use Rattle.setup.proofs.direction_taken.Goals as goal

pub returns : goal.returns
unfolding direction_taken clashes
returns c =
    let new = c.args.direction in
    let test = clashes new.out new.into new.model in
    any_from_yields_List (λ row. test (direction_read row)) _ _ _ c.any.ensures.ran (YieldsList-from_slice c.directions-rows.result.now c.iter.ensures.rest) (λ x b q k. (search rules, search (rules, tests)))
    ∙ taken_any direction_read test (direction_taken new.out new.into new.model) refl (λ x xs. refl) (directions_are c.args.book.now) c.directions-rows.ensures
