-- What the choice of the next step shows of the buffers and the progress.
-- Assumes nothing.
use Rattle.std.proofs.Common.{◌≡◌, ℕ, ◌+◌, ◌<◌, ◌≤◌, ◌⊎◌, true, false, [], length, arith}
use Rattle.std.proofs.lemmas.Grind.{common_steps}
use Rattle.dayrun_settled.specs.Settled.{longest}
use Rattle.lines.specs.Text.{line_size}
use Rattle.dayrun_progress.specs.declared.Buffers.{Buffers}
use Rattle.dayrun_progress.specs.declared.Next.TheVariants.{Take, Read, End}
use Rattle.dayrun_progress.specs.States.{collected, answerable, next_of}
use Rattle.dayrun_settled.proofs.Settled.{unsettled_few}

module _ {room size : ℕ} (buffers : Buffers room size) where
  pub record Answering : Type 0 where
    pub going : buffers.progress.done ≡ false
    pub fits : length (collected buffers) + line_size ≤ size
    pub known : answerable buffers.progress.ended buffers.unread ≡ true

  pub answering : next_of buffers ≡ Take → Answering
  unfolding next_of
  answering t = record { going = grind (arith, common_steps); fits = grind (arith, common_steps); known = grind (arith, common_steps) }

  pub record Reading : Type 0 where
    pub going : buffers.progress.done ≡ false
    pub open_input : buffers.progress.ended ≡ false
    pub empty : collected buffers ≡ []

  pub reading_on : next_of buffers ≡ Read → Reading
  unfolding next_of
  reading_on t = record { going = grind (arith, common_steps); open_input = grind (arith, common_steps); empty = grind (arith, common_steps) }

  -- it reads only what can't be answered, since the empty text has room for a line
  pub unanswered : line_size ≤ size → next_of buffers ≡ Read → answerable buffers.progress.ended buffers.unread ≡ false
  unfolding next_of
  unanswered room_for_line t = grind (arith, common_steps)

  pub record Ending : Type 0 where
    pub empty : collected buffers ≡ []
    pub over : (buffers.progress.done ≡ true) ⊎ ((buffers.progress.ended ≡ true) × (answerable buffers.progress.ended buffers.unread ≡ false))

  pub ending : line_size ≤ size → next_of buffers ≡ End → Ending
  unfolding next_of
  ending room_for_line t = record { empty = grind (arith, common_steps); over = grind (arith, common_steps) }

  -- where it reads, few bytes are unread
  pub few_unread : line_size ≤ size → next_of buffers ≡ Read → length buffers.unread < longest
  unfolding answerable
  few_unread room_for_line t = unsettled_few buffers.unread (rw (reading_on t).open_input at (unanswered room_for_line t))
