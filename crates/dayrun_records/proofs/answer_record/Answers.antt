-- `dayrun_records::answer_record` meets its contract.
-- Assumes nothing.
use Rattle.std.proofs.Common.{refl, arith}
use Rattle.dayrun_records.proofs.Made.{answered}
use Rattle.dayrun_records.specs.Records.{call_made}
use Rattle.dayrun_records.proofs.answer_record.Goals as goal

pub returns-in-1 : goal.returns-in-1
unfolding call_made
returns-in-1 c = answered 1 (omega arith) refl c.offer_direction.ensures

pub returns-in-2 : goal.returns-in-2
unfolding call_made
returns-in-2 c = answered 2 (omega arith) refl c.offer_profile.ensures

pub returns-in-3 : goal.returns-in-3
unfolding call_made
returns-in-3 c = answered 3 (omega arith) refl c.bid.ensures

pub returns-in-4 : goal.returns-in-4
unfolding call_made
returns-in-4 c = answered 4 (omega arith) refl c.nominate.ensures

pub returns-in-5 : goal.returns-in-5
unfolding call_made
returns-in-5 c = answered 5 (omega arith) refl c.match_session.ensures
