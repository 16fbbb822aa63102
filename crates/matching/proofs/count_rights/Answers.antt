-- `matching::count_rights` meets its contract.
-- Assumes nothing.
use Rattle.std.proofs.Common.{◌≡◌, length, ◌∙◌, rules, tests, arith}
use Rattle.std.specs.List.{filter}
use Rattle.std.proofs.lemmas.Iterator.{YieldsList-from_slice}
use Rattle.std.proofs.lemmas.Iterator.Consumers.{YieldsList-at, YieldsList-from_filter, count_from_yields_List}
use Rattle.matching.proofs.Counts.{passes, count_is, count_few}
use Rattle.matching.proofs.count_rights.Goals.{After-count-count}
use Rattle.matching.proofs.count_rights.Goals as goal

counted : (c : After-count-count) → c.count-count.result ≡ length (filter (passes c.args.direction c.args.session.0) c.rights-rows.result.now)
counted c = count_from_yields_List _ _ c.count-count.ensures.ran
    (YieldsList-from_filter _ (passes c.args.direction c.args.session.0) (YieldsList-at c.filter.ensures.source (YieldsList-from_slice c.rights-rows.result.now c.iter.ensures.rest)) c.filter.ensures.closure (λ x b q k. (search rules, search (rules, tests))))

pub returns : goal.returns
returns c = counted (goal.at.returns c).After-count-count ∙ count_is _ _ _ c.rights-rows.ensures

pub overflow_cast-result : goal.overflow_cast-result
overflow_cast-result c =
    let all = counted (goal.at.overflow_cast-result c).After-count-count ∙ count_is _ _ _ c.rights-rows.ensures in
    record { fits = omega (arith, all, count_few c.args.direction c.args.session.0 c.args.book.now) }
