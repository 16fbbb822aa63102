-- Each turn of the loop is the step that comes next, as `dayrun_progress` and `stream` describe it.
-- Assumes nothing.
use Rattle.std.specs.Prelude.{ℕ, suc, ◌-◌, ◌^◌, ◌≤◌, ◌≡◌, Bool, true, false, List, [], ◌++◌}
use Rattle.cells.specs.View.{book_of}
use Rattle.lines.specs.Text.{line_size}
use Rattle.dayrun_progress.specs.declared.Buffers.{Buffers}
use Rattle.dayrun_progress.specs.declared.Next.{Next}
use Rattle.dayrun_progress.specs.declared.Next.TheVariants.{Take, Write, Read, End}
use Rattle.dayrun_records.specs.Records.{start_book}
use Rattle.dayrun_progress.specs.States.{start_buffers, wrote_buffers, ReadsMore}
use Rattle.stream.specs.Input.{printed}
use Rattle.stream.specs.Running.{AnswersNext, State, next_in, Reaches}

-- ---- one step

-- the collected lines were written, or not all of them could be
pub record Wrote {room size : ℕ} (buffers r : Buffers room size) : Type 0 where
  pub written : Bool
  pub after : r ≡ wrote_buffers buffers written

abbrev pub state_of : {room size : ℕ} → List ℕ → Buffers room size → State room size
state_of cells buffers = record { cells = cells; buffers = buffers }

-- from a state by a step to the next state, each with the promise of the step's function
pub data Steps {room size : ℕ} : State room size → Next → State room size → Type 0 where
  taking : (st : State room size) (r : Buffers room size) (after : List ℕ) → AnswersNext st.cells st.buffers r after → Steps st Take (state_of after r)
  writing : (st : State room size) (r : Buffers room size) → Wrote st.buffers r → Steps st Write (state_of st.cells r)
  reading : (st : State room size) (r : Buffers room size) → ReadsMore st.buffers r → Steps st Read (state_of st.cells r)

-- ---- the steps from the start on

-- so many steps lead to the state, each the one that comes next, and none of them the end
pub data Turns {room size : ℕ} : ℕ → State room size → Type 0 where
  none : (cells : List ℕ) → book_of cells ≡ start_book → Turns 0 (state_of cells start_buffers)
  more : (n : ℕ) (st : State room size) (next : Next) (after : State room size) → Turns n st → next_in st ≡ next → Steps st next after → Turns (suc n) after

-- the state is one that steps lead to, or the write that came next in such a state failed
pub data Arrives {room size : ℕ} : State room size → Type 0 where
  reached : (input written : List ℕ) (st : State room size) → Reaches input written st → Arrives st
  failed : (input written : List ℕ) (st : State room size) → Reaches input written st → next_in st ≡ Write → Arrives (state_of st.cells (wrote_buffers st.buffers false))

-- ---- the whole loop

-- a line fits the room for lines; with this book, so many turns were taken; where the loop came to its end, the end is what comes next, and else no turn is left
pub record Loops (room size : ℕ) (ended : Bool) (cells : List ℕ) : Type 0 where
  pub room_for_line : line_size ≤ size
  pub buffers : Buffers room size
  pub turns : ℕ
  pub taken : Turns turns (state_of cells buffers)
  pub arrives : Arrives (state_of cells buffers)
  pub ends : ended ≡ true → next_in (state_of cells buffers) ≡ End
  pub all : ended ≡ false → turns ≡ 2 ^ 64 - 1

-- some book is the one that it leaves
pub record Answered (room size : ℕ) (ended : Bool) : Type 0 where
  pub cells : List ℕ
  pub loops : Loops room size ended cells

-- all lines of the input are written, with whatever stands behind what was read of it, or a write failed
pub data Ends {room size : ℕ} : State room size → Type 0 where
  all_written : (input written : List ℕ) (st : State room size) → Reaches input written st
      → ((rest : List ℕ) → (st.buffers.progress.ended ≡ true → rest ≡ []) → written ≡ printed start_book 1 (input ++ rest))
      → Ends st
  cut_off : (input written : List ℕ) (st : State room size) → Reaches input written st → next_in st ≡ Write → Ends (state_of st.cells (wrote_buffers st.buffers false))

-- so it is where the loop came to its end
abbrev pub EndsWritten : Type 0
EndsWritten = (room size : ℕ) (cells : List ℕ) (l : Loops room size true cells) → Ends (state_of cells l.buffers)
