-- The next record is answered and its line collected, from the promises of the parts.
-- Assumes nothing.
use Rattle.std.proofs.Common.{◌≡◌, ℕ, eqb, List, ◌++◌, drop, Result, refl, ap, ◌∙◌}
use Rattle.rules.specs.Calls.{Reply}
use Rattle.rules.specs.Said.{Answer, said, said_numbers}
use Rattle.rules.specs.declared.Refusal.{Refusal}
use Rattle.rules.specs.declared.ReplyNumbers.{ReplyNumbers}
use Rattle.cells.specs.View.{book_of}
use Rattle.lines.specs.Text.{line_of}
use Rattle.dayrun_records.specs.declared.Taken.{Taken}
use Rattle.dayrun_progress.specs.declared.Buffers.{Buffers}
use Rattle.dayrun_records.specs.Records.{at_front, answer_of, length_of, Takes}
use Rattle.dayrun_progress.specs.States.{collected}
use Rattle.stream.specs.Input.{following}
use Rattle.stream.specs.Running.{AnswersNext}

-- the unread bytes are those behind the record
abbrev pub TakenFrom : {room size : ℕ} → Buffers room size → Result Taken Refusal → Buffers room size → Answer → Type 0
TakenFrom buffers t r answer = (r ≡ record buffers { unread = drop (length_of t) buffers.unread }) × (answer ≡ answer_of t)

module _ {room size : ℕ} (before : List ℕ) (buffers : Buffers room size) (t : Result Taken Refusal) (after : List ℕ) (k : Takes before buffers.unread t after)
    (r : Buffers room size) (answer : Answer) (u : TakenFrom buffers t r answer) (n : ReplyNumbers) (e : said_numbers n ≡ said answer)
    (lines : List ℕ) (h : lines ≡ collected r ++ line_of r.progress.position (said_numbers n)) where
  replied : said_numbers n ≡ (at_front (book_of before) buffers.unread).reply
  replied = e ∙ ap said u.1 ∙ k.reply

  pub answers_next : AnswersNext before buffers (record r { lines = record { items = lines }; progress = record r.progress { position = following r.progress.position; done = eqb n.number 1 } }) after
  answers_next =
      record {
        book = k.book;
        moved = rw (h, u.0, k.size, replied, ap (λ (a : Reply). eqb a.number 1) replied) refl;
        bytes = k.fit;
      }
