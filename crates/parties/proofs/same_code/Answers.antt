-- `parties::same_code` meets its contract.
-- Assumes nothing.
use Rattle.std.proofs.Common.{ℕ, eqb, rules, tests, ◌∙◌}
use Rattle.std.proofs.lemmas.Fn.{fronts}
use Rattle.std.proofs.lemmas.Iterator.{YieldsList, YieldsList-from_slice, YieldsList-from_zip}
use Rattle.std.proofs.lemmas.Iterator.Consumers.{YieldsList-at}
use Rattle.std.proofs.lemmas.Iterator.Search.{all_from_yields_List}
use Rattle.std.specs.Iterator.Adapters.{zip_first, zip_second}
use Rattle.parties.proofs.Codes.{same_code_is}
use Rattle.parties.proofs.same_code.Goals as goal

pub returns : goal.returns
returns c =
    let cells : YieldsList fronts (λ y. y.now) (zip_first c.zip.result) c.args.row.now = YieldsList-at c.zip.ensures.first (YieldsList-from_slice c.args.row.now c.iter.ensures.rest) in
    let bytes : YieldsList fronts (λ y. y.now) (zip_second c.zip.result) c.args.code = YieldsList-at c.zip.ensures.second (YieldsList-from_slice c.args.code c.iter-2.ensures.rest) in
    all_from_yields_List (λ (p : ℕ × ℕ). eqb p.0 p.1) c.all.new.self _ _ c.all.ensures.ran (YieldsList-from_zip {s = c.zip.result} cells bytes)
    (λ x b q k. (search rules, search (rules, tests))) ∙ same_code_is c.args.row.now c.args.code (search rules) (search rules)
