-- `record::write` meets its contract.
-- Assumes nothing.
use Rattle.std.proofs.Common.{arith}
use Rattle.record.proofs.Turns.{front_put}
use Rattle.record.proofs.Whole.{room, write_refused, write_granted}
use Rattle.record.proofs.write.Goals as goal

pub returns-then-writer_refuses : goal.returns-then-writer_refuses
returns-then-writer_refuses c = let fields = c.from-fields.ensures in
    write_refused _ _ fields.0 c.record_length-length.ensures fields.1 c.writer_refuses.ensures c.if-writer_refuses.true

pub returns : goal.returns
returns c = let fields = c.from-fields.ensures in
    let long = room _ _ fields.0 c.record_length-length.ensures c.writer_refuses.ensures c.if-writer_refuses.false in
    let map = front_put c.args.buffer.now 2 _ (omega (arith, long, c.record_length-length.ensures.bytes)) c.put_number.ensures in
    rw (c.put_fields.ensures, map, c.map.ensures, c.kind.ensures)
    (write_granted _ _ fields.0 c.record_length-length.ensures fields.1 c.writer_refuses.ensures c.if-writer_refuses.false)
