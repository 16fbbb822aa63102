-- What the private workers read, over cells.
-- Assumes nothing.
use Rattle.std.specs.Prelude.{ℕ, List, Result}
use Rattle.rules.specs.Book.{left_at, shortfall_at}
use Rattle.rules.specs.declared.Refusal.{Refusal}
use Rattle.cells.specs.View.{book_of}
use Rattle.answers.specs.Promises.{ReadsDirection, ReadsProfile}
use Rattle.answers.specs.declared.Capacity.{Capacity}
use Rattle.answers.specs.declared.Capacity.TheVariants.{Direction, Profile}
use Rattle.answers.specs.declared.LeftRead.{LeftRead}

-- capacity left and shortfall of a direction or a profile in an hour
abbrev pub ReadsLeft : List ℕ → Capacity → ℕ → Result LeftRead Refusal → Type 0
ReadsLeft cells (Direction d) hour r = ReadsDirection cells d hour r
ReadsLeft cells (Profile p) hour r = ReadsProfile cells p hour r

-- the read of a place
abbrev pub left_in : List ℕ → ℕ → ℕ → LeftRead
left_in b row hour = record { left = left_at (book_of b) row hour; shortfall = shortfall_at (book_of b) row hour }
