-- What `read` and `write` promise.
-- Assumes nothing.
use Rattle.std.specs.Prelude.{ℕ, ◌<◌, ◌≡◌, List, Result, Ok, Err, get_or}
use Rattle.rules.specs.Calls.{no_details}
use Rattle.rules.specs.Said.{Answer, said, said_refusal}
use Rattle.rules.specs.Records.{RecordReply, reading, writing, no_call}
use Rattle.rules.specs.declared.Refusal.{Refusal}
use Rattle.rules.specs.declared.CallRecord.{CallRecord}
use Rattle.fields.specs.Fields.{CallFits}
use Rattle.record.specs.declared.RecordRead.{RecordRead}

-- the answer, the length and the call, as document 01 has them: a refusal has the length 0 and the call of zeros
abbrev pub read_said : Result RecordRead Refusal → RecordReply
read_said (Ok r) = record { reply = no_details 0; length = r.length; call = r.call }
read_said (Err e) = record { reply = said_refusal e; length = 0; call = no_call }

-- a reading is that of the rules
pub record Reads (bytes : List ℕ) (r : Result RecordRead Refusal) : Type 0 where
  pub bytes_fit : (i : ℕ) → get_or bytes i 0 < 256
  pub reply : read_said r ≡ reading bytes

-- a writing is that of the rules, reply and whole buffer
pub record Writes (call : CallRecord) (before : List ℕ) (r : Answer) (after : List ℕ) : Type 0 where
  pub call_fits : CallFits call
  pub reply : said r ≡ (writing call before).reply
  pub buffer : after ≡ (writing call before).buffer
