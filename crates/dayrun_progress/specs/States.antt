-- The program's state, what comes next there, and the states after the steps that take no record.
-- Assumes nothing.
use Rattle.std.specs.Prelude.{ℕ, ◌+◌, ◌≡◌, Bool, false, ◌||◌, ◌&&◌, not, List, [], ◌++◌, length, take, nat_lt, nat_le, ◌==◌, if◌then◌else◌}
use Rattle.lines.specs.Text.{line_size}
use Rattle.dayrun_settled.specs.Settled.{settled}
use Rattle.dayrun_progress.specs.Input.{Brings}
use Rattle.dayrun_progress.specs.declared.Progress.{Progress}
use Rattle.dayrun_progress.specs.declared.Buffers.{Buffers}
use Rattle.dayrun_progress.specs.declared.Next.{Next}
use Rattle.dayrun_progress.specs.declared.Next.TheVariants.{Take, Write, Read, End}

-- ---- the state, with this room for input and for lines

-- the lines that wait to be written
abbrev pub collected : {room size : ℕ} → Buffers room size → List ℕ
collected buffers = buffers.lines.items

-- ---- what comes next

-- once the input has ended, any bytes that are left are answered; before, a record that is settled
unfoldable pub answerable : Bool → List ℕ → Bool
answerable ended s = if ended then nat_lt 0 (length s) else settled s

-- the program goes on, a line more fits the text, and the next record can be answered
abbrev pub ready : {room size : ℕ} → Buffers room size → Bool
ready {room} {size} buffers = not buffers.progress.done && nat_le (length (collected buffers) + line_size) size && answerable buffers.progress.ended buffers.unread

-- that record; else the collected lines are written; else the end, or a read
unfoldable pub next_of : {room size : ℕ} → Buffers room size → Next
next_of buffers =
    if ready buffers then Take else
    if nat_lt 0 (length (collected buffers)) then Write else
    if buffers.progress.done || buffers.progress.ended then End else Read

-- ---- the steps

-- nothing is read, and the first position is 1
abbrev pub start_progress : Progress
start_progress = record { position = 1; ended = false; done = false }

abbrev pub start_buffers : {room size : ℕ} → Buffers room size
start_buffers = record { unread = []; lines = record { items = [] }; progress = start_progress }

-- the lines were written; where they couldn't be, the program is done
abbrev pub wrote_progress : Progress → Bool → Progress
wrote_progress progress written = record progress { done = progress.done || not written }

abbrev pub wrote_buffers : {room size : ℕ} → Buffers room size → Bool → Buffers room size
wrote_buffers buffers written = record buffers { lines = record { items = [] }; progress = wrote_progress buffers.progress written }

-- a read brought so many bytes; none is the end of the input
abbrev pub received_progress : Progress → ℕ → Progress
received_progress progress more = record progress { ended = (more == 0) }

-- it brought these, behind the unread ones
abbrev pub received_buffers : {room size : ℕ} → Buffers room size → List ℕ → Buffers room size
received_buffers buffers more = record buffers { unread = buffers.unread ++ more; progress = received_progress buffers.progress (length more) }

-- so it is after a read, of no byte too
pub record ReadsMore {room size : ℕ} (buffers r : Buffers room size) : Type 0 where
  pub count : ℕ
  pub brings : Brings buffers.unread count r.unread
  pub received : r ≡ received_buffers buffers (take count brings.part)
