-- `capacity::any_above` meets its contract.
-- Assumes nothing.
use Rattle.std.proofs.Common.{ltb, drop, sym, ◌∙◌, rules, tests}
use Rattle.std.proofs.lemmas.Iterator.{YieldsList-from_slice}
use Rattle.std.proofs.lemmas.Iterator.Adapters.{YieldsList-from_skip}
use Rattle.std.proofs.lemmas.Iterator.Search.{any_from_yields_List}
use Rattle.capacity.proofs.Above.{any_above_is}
use Rattle.capacity.proofs.any_above.Goals as goal

pub returns : goal.returns
returns c =
    let source = YieldsList-from_slice c.args.mw (rw c.skip.ensures.source c.iter.ensures.rest) in
    any_from_yields_List (λ m. ltb c.args.most m) _ _ _ c.any.ensures.ran (YieldsList-from_skip c.args.from source c.skip.ensures.count) (λ x b q k. search (rules, tests)) ∙ sym (any_above_is c.args.most (drop c.args.from c.args.mw))
