-- Reading and writing undo each other, whatever the call, the bytes and the buffer. `Writes` and `Reads` are what `write` and `read` promise.
-- Assumes nothing.
use Rattle.std.specs.Prelude.{ℕ, ◌≤◌, ◌≡◌, List, ◌++◌, Result, Ok, length, take, drop}
use Rattle.rules.specs.Calls.{no_details}
use Rattle.rules.specs.Said.{Answer, said}
use Rattle.rules.specs.declared.Refusal.{Refusal}
use Rattle.rules.specs.declared.CallRecord.{CallRecord}
use Rattle.record.specs.declared.RecordRead.{RecordRead}
use Rattle.record.specs.Promises.{read_said, Reads, Writes}

-- a buffer that a call was written to is read as that call, with the bytes written as its length
abbrev pub ReadBack : Type 0
ReadBack =
    (call : CallRecord) (before after : List ℕ) (answer : Answer) (r : Result RecordRead Refusal)
    → Writes call before answer after
    → (said answer).number ≡ 0
    → Reads after r
    → read_said r ≡ record { reply = no_details 0; length = (said answer).first; call = call }

-- the call that was read from bytes is written, to any buffer with room for it, as those same bytes, and nothing past them changes
abbrev pub WriteBack : Type 0
WriteBack =
    (bytes : List ℕ) (r : RecordRead) (before after : List ℕ) (answer : Answer)
    → Reads bytes (Ok r)
    → r.length ≤ length before
    → Writes r.call before answer after
    → (said answer ≡ record { number = 0; first = r.length; second = 0 }) × (after ≡ take r.length bytes ++ drop r.length before)
