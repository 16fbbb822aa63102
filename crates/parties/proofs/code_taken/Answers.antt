-- `parties::code_taken` meets its contract.
-- Assumes nothing.
use Rattle.std.proofs.Common.{rules, tests, ◌∙◌, refl}
use Rattle.std.proofs.lemmas.Iterator.{YieldsList-from_slice}
use Rattle.std.proofs.lemmas.Iterator.Search.{any_from_yields_List}
use Rattle.rules.specs.Setup.{code_taken}
use Rattle.cells.specs.View.{party_read}
use Rattle.cells.proofs.Entries.{parties_are}
use Rattle.parties.specs.Work.{same_code}
use Rattle.setup.proofs.Searches.{taken_any}
use Rattle.parties.proofs.code_taken.Goals as goal

pub returns : goal.returns
unfolding code_taken
returns c =
    let test = same_code c.args.code in
    any_from_yields_List (λ row. test (party_read row)) _ _ _ c.any.ensures.ran (YieldsList-from_slice c.parties-rows.result.now c.iter.ensures.rest) (λ x b q k. (search rules, search (rules, tests)))
    ∙ taken_any party_read test (code_taken c.args.code) refl (λ x xs. refl) (parties_are c.args.book.now) c.parties-rows.ensures
