-- Reading and writing undo each other.
-- Assumes nothing.
use Rattle.std.proofs.Common.{◌≡◌, ℕ, List, length, drop, false, sym, ap, ◌∙◌}
use Rattle.rules.specs.Calls.{Reply}
use Rattle.rules.specs.Said.{said}
use Rattle.rules.specs.Records.{record_of, Written, RecordReply, reading, writing}
use Rattle.rules.specs.declared.CallRecord.{CallRecord}
use Rattle.rules.proofs.Records.{writing_by, writer_accepts, written_kind, read_written, written_read}
use Rattle.record.specs.RoundTrip.{ReadBack, WriteBack}

pub read_back : ReadBack
read_back call before after answer r w granted read =
    let yes : (writing call before).reply.number ≡ 0 = sym (ap (λ (a : Reply). a.number) w.reply) ∙ granted in
    let told = writing_by call before false (writer_accepts call before yes) in
    let kind = written_kind call before yes in
    let rest : List ℕ = drop (length (record_of call)) before in
    let size : (said answer).first ≡ length (record_of call) = ap (λ (a : Reply). a.first) (w.reply ∙ ap (λ (x : Written). x.reply) told) in
    read.reply ∙ ap reading (w.buffer ∙ ap (λ (x : Written). x.buffer) told)
    ∙ read_written call rest w.call_fits.hours w.call_fits.fields kind.0 kind.1 ∙ rw size

pub write_back : WriteBack
write_back bytes r before after answer read fits w =
    let call = ap (λ (x : RecordReply). x.call) read.reply in
    let size : r.length ≡ (reading bytes).length = ap (λ (x : RecordReply). x.length) read.reply in
    let granted : (reading bytes).reply.number ≡ 0 = sym (ap (λ (x : RecordReply). x.reply.number) read.reply) in
    let back = (written_read bytes read.bytes_fit granted).1 before (rw size at fits) in
    let told = ap (λ (c : CallRecord). writing c before) call ∙ back in
    (w.reply ∙ ap (λ (x : Written). x.reply) told ∙ rw size, w.buffer ∙ ap (λ (x : Written). x.buffer) told ∙ rw size)
