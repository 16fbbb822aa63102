-- Every condition that can hold has its number in the list of demand 1.
-- Assumes nothing.
use Prim.Native.Nat.{ℕ}
use mathlib.Core.Path.{◌≡◌, refl}
use mathlib.Core.Bool.{Bool, true, false, cond, false≢true}
use mathlib.Core.List.{List}
use lib.Dec.{eqb}
use borrow.Author.Tests.{eqb-true}
use Rattle.rules.specs.Basics.{has}
use Rattle.rules.specs.Book.{Book}
use Rattle.rules.specs.Calls.{Call}
use Rattle.rules.specs.Refusals.{refuses}
use Rattle.rules.specs.Opening.{opening_refuses}
use Rattle.rules.specs.Reads.{direction_read_refuses, profile_read_refuses, right_read_refuses, confirmed_read_refuses}
use Rattle.rules.specs.Records.{writer_refuses, reader_refuses}
use Rattle.rules.specs.Demand1.{listed}
use Rattle.rules.specs.declared.CallRecord.{CallRecord}

abbrev pub Listed : (ℕ → Bool) → Type 0
Listed f = (n : ℕ) → f n ≡ true → has n listed ≡ true

-- a table's line for number k, and the lines after it
case : (n k : ℕ) (x rest : Bool) → has k listed ≡ true → (rest ≡ true → has n listed ≡ true) → cond (eqb n k) x rest ≡ true → has n listed ≡ true
case n k x rest h r e = go (eqb n k) refl
  where
    go : (t : Bool) → eqb n k ≡ t → has n listed ≡ true
    go true p = rw (eqb-true n k p) h
    go false p = r (rw p at e)

-- the end of a table
none_other : (n : ℕ) → false ≡ true → has n listed ≡ true
none_other n e = absurd (false≢true e)

pub calls_listed : (b : Book) (c : Call) → Listed (refuses b c)
unfolding refuses has
calls_listed b c n = case n 3 _ _ refl (case n 4 _ _ refl (case n 5 _ _ refl (case n 6 _ _ refl (case n 7 _ _ refl (case n 16 _ _ refl (case n 8 _ _ refl (case n 9 _ _ refl (case n 10 _ _ refl (case n 11 _ _ refl (case n 12 _ _ refl (case n 13 _ _ refl (case n 15 _ _ refl (none_other n)))))))))))))

pub openings_listed : (y m d : ℕ) → Listed (opening_refuses y m d)
unfolding opening_refuses has
openings_listed y m d n = case n 17 _ _ refl (none_other n)

pub directions_listed : (b : Book) (d hour : ℕ) → Listed (direction_read_refuses b d hour)
unfolding direction_read_refuses has
directions_listed b d hour n = case n 6 _ _ refl (none_other n)

pub profiles_listed : (b : Book) (p hour : ℕ) → Listed (profile_read_refuses b p hour)
unfolding profile_read_refuses has
profiles_listed b p hour n = case n 6 _ _ refl (none_other n)

pub rights_listed : (b : Book) (r : ℕ) → Listed (right_read_refuses b r)
unfolding right_read_refuses has
rights_listed b r n = case n 6 _ _ refl (none_other n)

pub confirmed_listed : (b : Book) (r o i : ℕ) → Listed (confirmed_read_refuses b r o i)
unfolding confirmed_read_refuses has
confirmed_listed b r o i n = case n 6 _ _ refl (case n 12 _ _ refl (none_other n))

pub readers_listed : (s : List ℕ) → Listed (reader_refuses s)
unfolding reader_refuses has
readers_listed s n = case n 1 _ _ refl (none_other n)

pub writers_listed : (c : CallRecord) (buffer : List ℕ) → Listed (writer_refuses c buffer)
unfolding writer_refuses has
writers_listed c buffer n = case n 1 _ _ refl (none_other n)
