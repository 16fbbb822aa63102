-- The step that answers a record, all steps in a row, and what they write, however the input comes in parts.
-- Assumes nothing.
use Rattle.std.specs.Prelude.{◌≡◌, ℕ, ◌≤◌, true, false, List, [], ◌∷◌, ◌++◌, drop, ◌==◌}
use Rattle.cells.specs.View.{book_of}
use Rattle.lines.specs.Text.{line_size, line_of}
use Rattle.dayrun_progress.specs.declared.Progress.{Progress}
use Rattle.dayrun_progress.specs.declared.Buffers.{Buffers}
use Rattle.dayrun_progress.specs.declared.Next.{Next}
use Rattle.dayrun_progress.specs.declared.Next.TheVariants.{Take, Write, Read, End}
use Rattle.dayrun_progress.specs.States.{collected, next_of, start_buffers, wrote_buffers, received_buffers}
use Rattle.dayrun_records.specs.Records.{Outcome, start_book, at_front}
use Rattle.dayrun_settled.specs.Settled.{Bytes, Open}
use Rattle.stream.specs.Input.{following, lines_of, printed}

-- ---- a record

-- after a record with this outcome was answered: a 1 is the last
abbrev pub answered_progress : Progress → Outcome → Progress
answered_progress progress a = record progress { position = following progress.position; done = (a.reply.number == 1) }

abbrev pub answered_buffers : {room size : ℕ} → Buffers room size → Outcome → Buffers room size
answered_buffers buffers a =
    record buffers {
      unread = drop a.length buffers.unread;
      lines = record { items = collected buffers ++ line_of buffers.progress.position a.reply };
      progress = answered_progress buffers.progress a;
    }

-- the next record is answered, and its line collected
pub record AnswersNext {room size : ℕ} (before : List ℕ) (buffers r : Buffers room size) (after : List ℕ) : Type 0 where
  pub book : book_of after ≡ (at_front (book_of before) buffers.unread).book
  pub moved : r ≡ answered_buffers buffers (at_front (book_of before) buffers.unread)
  pub bytes : Bytes buffers.unread

-- ---- steps in a row

-- the cells of the book, and the buffers with the progress, with this room for input and for lines
pub record State (room size : ℕ) : Type 0 where
  pub cells : List ℕ
  pub buffers : Buffers room size

-- what comes next there
abbrev pub next_in : {room size : ℕ} → State room size → Next
next_in st = next_of st.buffers

-- the states that steps lead to, each with the promise of its function: what was read of the input so far, what was written, the state.
-- A read brings as many bytes as it likes
pub data Reaches {room size : ℕ} : List ℕ → List ℕ → State room size → Type 0 where
  begins : (cells : List ℕ) → book_of cells ≡ start_book → Reaches [] [] (record { cells = cells; buffers = start_buffers })
  answers : {input written : List ℕ} {st : State room size} (r : Buffers room size) (after : List ℕ) → Reaches input written st → next_in st ≡ Take
      → AnswersNext st.cells st.buffers r after
      → Reaches input written (record { cells = after; buffers = r })
  writes : {input written : List ℕ} {st : State room size} → Reaches input written st → next_in st ≡ Write
      → Reaches input (written ++ collected st.buffers) (record st { buffers = wrote_buffers st.buffers true })
  reads : {input written : List ℕ} {st : State room size} (more : List ℕ) → Reaches input written st → next_in st ≡ Read
      → Reaches (input ++ more) written (record st { buffers = received_buffers st.buffers more })

-- where a line fits the room for lines, all lines of the whole input are written at the end; where the program ended by itself, there may be a rest that it didn't read
abbrev pub WritesAll : Type 0
WritesAll =
    (room size : ℕ) (input written rest : List ℕ) (st : State room size) → line_size ≤ size → Reaches input written st → next_in st ≡ End
    → (st.buffers.progress.ended ≡ true → rest ≡ []) → written ≡ printed start_book 1 (input ++ rest)

-- before each read, the lines of all records that are settled are written, and no others
abbrev pub WritesAtOnce : Type 0
WritesAtOnce =
    (room size : ℕ) (input written : List ℕ) (st : State room size) → line_size ≤ size → Reaches input written st → next_in st ≡ Read
    → written ≡ lines_of false start_book 1 input

-- and the bytes that are left may still become a record
abbrev pub WaitsWhereOpen : Type 0
WaitsWhereOpen = (room size : ℕ) (st : State room size) → line_size ≤ size → next_in st ≡ Read → Open st.buffers.unread

-- ---- the example of document 01

-- a direction 0 offer of 100 in hour 1 at 1,000
abbrev offer_record : List ℕ
offer_record = 19 ∷ 66 ∷ 1 ∷ 232 ∷ 3 ∷ 0 ∷ 100 ∷ 0 ∷ 1 ∷ []

-- a bid of 60 by party 0 at 1,100
abbrev bid_record : List ℕ
bid_record = 87 ∷ 2 ∷ 3 ∷ 76 ∷ 4 ∷ 0 ∷ 0 ∷ 1 ∷ 60 ∷ 0 ∷ []

-- the offer and two such bids
abbrev pub example_input : List ℕ
example_input = offer_record ++ (bid_record ++ bid_record)

-- "1 0 100 0", "2 0 0 0", "3 15 1 0", each with the end of the line
abbrev pub example_text : List ℕ
example_text =
    49 ∷ 32 ∷ 48 ∷ 32 ∷ 49 ∷ 48 ∷ 48 ∷ 32 ∷ 48 ∷ 10
    ∷ 50 ∷ 32 ∷ 48 ∷ 32 ∷ 48 ∷ 32 ∷ 48 ∷ 10
    ∷ 51 ∷ 32 ∷ 49 ∷ 53 ∷ 32 ∷ 49 ∷ 32 ∷ 48 ∷ 10
    ∷ []

-- they print these three lines
abbrev pub ExamplePrinted : Type 0
ExamplePrinted = printed start_book 1 example_input ≡ example_text

-- and so the program writes these where it comes to its end over them, in whatever parts it reads them
abbrev pub ExampleWritten : Type 0
ExampleWritten =
    (room size : ℕ) (input written rest : List ℕ) (st : State room size) → line_size ≤ size → Reaches input written st → next_in st ≡ End
    → (st.buffers.progress.ended ≡ true → rest ≡ []) → input ++ rest ≡ example_input → written ≡ example_text
