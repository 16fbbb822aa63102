-- `dayrun_settled::can_be_read` meets its contract.
-- Assumes nothing.
use Rattle.std.proofs.Common.{◌∙◌, rules, tests}
use Rattle.std.proofs.lemmas.Iterator.{YieldsList-from_slice}
use Rattle.std.proofs.lemmas.Iterator.Search.{any_from_yields_List}
use Rattle.dayrun_settled.proofs.Patterns.{read_by, patterns, any_pattern}
use Rattle.dayrun_settled.proofs.can_be_read.Goals as goal

pub returns : goal.returns
returns c =
    any_from_yields_List (read_by c.args.bytes.now) _ _ c.any.result c.any.ensures.ran (YieldsList-from_slice patterns (cc)) (λ x b q k. search (rules, tests))
    ∙ any_pattern c.args.bytes.now
