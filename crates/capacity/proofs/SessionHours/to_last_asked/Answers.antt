-- `capacity::SessionHours::to_last_asked` meets its contract.
-- Assumes nothing.
use Rattle.std.proofs.Common.{take, rules, tests}
use Rattle.capacity.proofs.LastAsked.{last_found}
use Rattle.capacity.proofs.SessionHours.to_last_asked.Goals as goal

pub returns-in-Some-clause-searched : goal.returns-in-Some-clause-searched
returns-in-Some-clause-searched c = rw c.in-Some.is at (last_found (take c.args.self.count c.args.mw.now) _ _ c.rposition.ensures.ran (rw c.iter.ensures.rest) (search rules) (λ x b q k. search (rules, tests)))

pub returns-in-None-clause-searched : goal.returns-in-None-clause-searched
returns-in-None-clause-searched c = rw c.in-None.is at (last_found (take c.args.self.count c.args.mw.now) _ _ c.rposition.ensures.ran (rw c.iter.ensures.rest) (search rules) (λ x b q k. search (rules, tests)))
