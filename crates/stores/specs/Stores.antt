-- The cells after the stores of a granted call.
-- Assumes nothing.
use Rattle.std.specs.Prelude.{ℕ, ◌+◌, ◌*◌, List, length, set, replicate}
use Rattle.std.proofs.lemmas.List.Edits.{sets}
use Rattle.cells.specs.Layout.{CELLS, YEAR, MONTH, DAY, HOURS, WEEKDAY, CLOCK, STARTED}

-- the time of a granted timed call, which shuts set-up
abbrev pub clocked : ℕ → List ℕ → List ℕ
clocked time b = set (set b CLOCK time) STARTED 1

-- an empty book of a day: year, month and day of its date, count of hours, weekday
unfoldable pub emptied : ℕ → ℕ → ℕ → ℕ → ℕ → List ℕ
emptied y m d n weekday = set (set (set (set (set (replicate CELLS 0) YEAR y) MONTH m) DAY d) HOURS n) WEEKDAY weekday

-- a table with the count n, and a row more
unfoldable pub with_row : ℕ → ℕ → List ℕ → List ℕ → List ℕ
with_row table n row b = set (sets b (table + 1 + n * length row) row) table (n + 1)
