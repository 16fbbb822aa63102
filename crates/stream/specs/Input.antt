-- What the program prints for the whole of its input.
-- Assumes nothing.
use Rattle.std.specs.Prelude.{ℕ, zero, suc, ◌+◌, ◌%◌, ◌^◌, Bool, true, if◌then◌else◌, List, [], ◌++◌, length, drop, ◌==◌}
use Rattle.rules.specs.Book.{Book}
use Rattle.dayrun_progress.specs.States.{answerable}
use Rattle.lines.specs.Text.{line_of}
use Rattle.dayrun_records.specs.Records.{at_front}

-- positions are numbers of 64 bits
abbrev pub following : ℕ → ℕ
following k = (k + 1) % 2 ^ 64

-- the lines from a position on, for a book and what is left of the input; n bounds how many there are
unfoldable pub lines_in : ℕ → Bool → Book → ℕ → List ℕ → List ℕ
lines_in zero ended b k s = []
lines_in (suc n) ended b k s =
    if answerable ended s
    then line_of k (at_front b s).reply ++ (if (at_front b s).reply.number == 1 then [] else lines_in n ended (at_front b s).book (following k) (drop (at_front b s).length s))
    else []

-- all of them: each takes a byte at least
abbrev pub lines_of : Bool → Book → ℕ → List ℕ → List ℕ
lines_of ended b k s = lines_in (length s) ended b k s

-- those of a whole input
abbrev pub printed : Book → ℕ → List ℕ → List ℕ
printed b k s = lines_of true b k s
