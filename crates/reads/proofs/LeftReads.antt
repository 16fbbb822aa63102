-- What a read of capacity left and shortfall answers, by its test.
-- Assumes nothing.
use Rattle.std.specs.Prelude.{Result, Ok, Err}
use Prim.Native.Nat.{ℕ}
use mathlib.Core.Path.{◌≡◌}
use mathlib.Core.Bool.{true, false, ◌||◌}
use mathlib.Core.List.{List}
use Rattle.rules.specs.Refusals.{order, first_of, hour_unknown}
use Rattle.rules.specs.Reads.{direction_read_refuses, read_direction, profile_read_refuses, read_profile}
use Rattle.rules.specs.declared.Refusal.TheVariants.{Unknown}
use Rattle.cells.specs.View.{book_of}
use Rattle.answers.specs.Promises.{said_left}
use Rattle.answers.specs.Capacities.{capacity_unknown, row_of, read_left}
use Rattle.answers.specs.declared.Capacity.{Capacity}
use Rattle.answers.specs.declared.Capacity.TheVariants.{Direction, Profile}
use Rattle.answers.specs.declared.LeftRead.{LeftRead}
use Rattle.rules.specs.declared.Refusal.{Refusal}
use Rattle.reads.specs.Work.{ReadsLeft, left_in}

pub reads_left : (cells : List ℕ) (x : Capacity) (h : ℕ) (r : Result LeftRead Refusal) → said_left r ≡ read_left (book_of cells) x h → ReadsLeft cells x h r
reads_left cells (Direction d) h r e = record { reply = e }
reads_left cells (Profile p) h r e = record { reply = e }

pub unknown_read : (b : List ℕ) (x : Capacity) (h : ℕ) → (capacity_unknown (book_of b) x || hour_unknown (book_of b) h) ≡ true → said_left (Err Unknown) ≡ read_left (book_of b) x h
unfolding read_direction direction_read_refuses read_profile profile_read_refuses first_of order
unknown_read b (Direction d) h e = rw e
unknown_read b (Profile p) h e = rw e

pub known_read : (b : List ℕ) (x : Capacity) (h : ℕ) → (capacity_unknown (book_of b) x || hour_unknown (book_of b) h) ≡ false → said_left (Ok (left_in b (row_of x) h)) ≡ read_left (book_of b) x h
unfolding read_direction direction_read_refuses read_profile profile_read_refuses first_of order
known_read b (Direction d) h e = rw e
known_read b (Profile p) h e = rw e
