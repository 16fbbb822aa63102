-- `record::read` meets its contract.
-- Assumes nothing.
use Rattle.std.proofs.Common.{arith}
use Rattle.record.proofs.Whole.{found_fits, read_refused, read_granted}
use Rattle.record.proofs.read.Goals as goal

pub returns-then-reader_refuses : goal.returns-then-reader_refuses
returns-then-reader_refuses c = read_refused _ _ c.find_fields-found.ensures (λ i. omega (arith, c.type_inv.bytes i)) c.reader_refuses.ensures c.if-reader_refuses.true

pub call-requires : goal.call-requires
call-requires c = found_fits _ _ c.find_fields-found.ensures (λ i. omega (arith, c.type_inv.bytes i))

pub returns : goal.returns
returns c = read_granted _ _ c.find_fields-found.ensures (λ i. omega (arith, c.type_inv.bytes i)) c.call.ensures c.reader_refuses.ensures c.if-reader_refuses.false
