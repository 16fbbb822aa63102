-- From the reader's promise and the call's to what the record at the front of bytes does.
-- Assumes nothing.
use Rattle.std.proofs.Common.{◌≡◌, ℕ, ◌<◌, Bool, true, false, List, Ok, Err, sym, refl, ap, ◌∙◌, arith}
use Rattle.rules.specs.Book.{Book}
use Rattle.rules.specs.Calls.{Reply, no_details}
use Rattle.rules.specs.Said.{Answer, said_refusal}
use Rattle.rules.specs.Run.{applied}
use Rattle.rules.specs.Records.{RecordReply, is_kind, call_of, reader_refuses, reading}
use Rattle.rules.specs.declared.Refusal.{Refusal}
use Rattle.rules.specs.declared.Refusal.TheVariants.{Record, Date, Field, SetupShut, Clock, Unknown, Taken, TooEarly, TooLate, Hours, Access, Owner, Cycle, Full, Short}
use Rattle.rules.specs.declared.CallRecord.{CallRecord}
use Rattle.rules.proofs.Records.{readable, reading_by, reader_accepts}
use Rattle.cells.specs.View.{book_of}
use Rattle.record.specs.declared.RecordRead.{RecordRead}
use Rattle.record.specs.Promises.{Reads}
use Rattle.dayrun_records.specs.Records.{call_made, AnswersRecord, at_front, Takes}

pub front_read : (b : Book) (s : List ℕ) → (reading s).reply.number ≡ 0
    → at_front b s ≡ record { reply = (applied b (call_made (reading s).call)).reply; book = (applied b (call_made (reading s).call)).book; length = (reading s).length }
unfolding at_front
front_read b s e = rw e

pub front_refused : (b : Book) (s : List ℕ) → (reading s).reply ≡ no_details 1 → at_front b s ≡ record { reply = no_details 1; book = b; length = 0 }
unfolding at_front
front_refused b s e = rw e refl

-- no refusal has the number 0
refusal_number : (e : Refusal) → 0 < (said_refusal e).number
refusal_number Record = omega arith
refusal_number Date = omega arith
refusal_number Field = omega arith
refusal_number SetupShut = omega arith
refusal_number Clock = omega arith
refusal_number Unknown = omega arith
refusal_number Taken = omega arith
refusal_number TooEarly = omega arith
refusal_number TooLate = omega arith
refusal_number Hours = omega arith
refusal_number Access = omega arith
refusal_number Owner = omega arith
refusal_number Cycle = omega arith
refusal_number Full = omega arith
refusal_number (Short h l) = omega arith

-- the record was read: its call is answered
pub when_read : (b s : List ℕ) (r : RecordRead) (a : Answer) (b' : List ℕ) → Reads s (Ok r) → AnswersRecord b r.call a b' → Takes b s (Ok (record { answer = a; length = r.length })) b'
unfolding call_of
when_read b s r a b' p w =
    let number = ap (λ (x : RecordReply). x.reply.number) p.reply in
    let size = ap (λ (x : RecordReply). x.length) p.reply in
    let call = ap (λ (x : RecordReply). x.call) p.reply in
    let accepted = reader_accepts s (sym number) in
    let rd = reading_by s false accepted in
    let k = ap (λ (x : CallRecord). is_kind x.kind) (call ∙ ap (λ (x : RecordReply). x.call) rd) ∙ (readable s accepted).kind in
    let t = front_read (book_of b) s (sym number) in
    let h = w.made k in
    record {
      reply = rw (t, ← call) h.reply;
      book = rw (t, ← call) h.book;
      size = rw t size;
      kept = h.kept;
      within = rw (size, rd) (readable s accepted).ends;
      fit = p.bytes_fit;
    }

-- the reader refused it
pub when_refused : (b s : List ℕ) (e : Refusal) → Reads s (Err e) → Takes b s (Err e) b
when_refused b s e p = go (reader_refuses s 1) refl
  where
    same : said_refusal e ≡ (reading s).reply
    same = ap (λ (x : RecordReply). x.reply) p.reply

    granted : (said_refusal e).number ≡ 0 → ⊥
    granted q = let l = refusal_number e in omega arith

    go : (t : Bool) → reader_refuses s 1 ≡ t → Takes b s (Err e) b
    go false q = absurd (granted (ap (λ (x : Reply). x.number) (same ∙ ap (λ (x : RecordReply). x.reply) (reading_by s false q))))
    go true q =
        let reply = ap (λ (x : RecordReply). x.reply) (reading_by s true q) in
        let t = front_refused (book_of b) s reply in
        record {
          reply = rw t (same ∙ reply);
          book = rw t refl;
          size = rw t refl;
          kept = λ _. refl;
          within = omega arith;
          fit = p.bytes_fit;
        }
