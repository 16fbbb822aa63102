-- Demand 1: a call is granted and no condition holds, or it is refused with the first number in the order whose condition holds; the place in
-- the order decides, not the size of the number. A refused call leaves the book, and a refused writing the buffer, as it was. The details of an
-- opening, a read and a reading of a record are 0.
-- Assumes nothing.
use Rattle.std.specs.Prelude.{ℕ, ◌≡◌, Bool, true, false, List, [], ◌∷◌}
use Rattle.rules.specs.Basics.{has}
use Rattle.rules.specs.Book.{Book}
use Rattle.rules.specs.Calls.{Call, Reply, is_grant}
use Rattle.rules.specs.Refusals.{order, before, refuses}
use Rattle.rules.specs.Run.{applied}
use Rattle.rules.specs.Opening.{opening_refuses, opening}
use Rattle.rules.specs.Reads.{direction_read_refuses, read_direction, profile_read_refuses, read_profile, right_read_refuses, read_right, confirmed_read_refuses, read_confirmed}
use Rattle.rules.specs.Records.{writer_refuses, writing, reader_refuses, reading}
use Rattle.rules.specs.declared.CallRecord.{CallRecord}

-- the test fails at each of the numbers
abbrev pub None : (ℕ → Bool) → List ℕ → Type 0
None f [] = Unit {0}
None f (n ∷ ns) = (f n ≡ false) × None f ns

-- the numbers in the order in which they count: 01's, with 16 in 8's place, just before it (02, S-1), without 14 (02, S-2), and with 17 in 2's place
-- (02, S-3)
abbrev pub listed : List ℕ
listed = 1 ∷ 17 ∷ 3 ∷ 4 ∷ 5 ∷ 6 ∷ 7 ∷ 16 ∷ 8 ∷ 9 ∷ 10 ∷ 11 ∷ 12 ∷ 13 ∷ 15 ∷ []

-- no number stands twice
abbrev pub EachOnce : List ℕ → Type 0
EachOnce [] = Unit {0}
EachOnce (n ∷ ns) = (has n ns ≡ false) × EachOnce ns

-- the reply's number, by the conditions f: 0 and no condition at all holds, or n is listed, its condition holds and none before it in the list does
pub data First (f : ℕ → Bool) : ℕ → Type 0 where
  granting : ((n : ℕ) → f n ≡ false) → First f 0
  refusing : (n : ℕ) → has n listed ≡ true → f n ≡ true → None f (before n listed) → First f n

-- the same of a whole reply, whose details are both 0
abbrev pub NumberAlone : (ℕ → Bool) → Reply → Type 0
NumberAlone f r = First f r.number × ((r.first ≡ 0) × (r.second ≡ 0))

pub record Demand1 : Type 0 where
  -- the order in which the conditions are asked is the list, with each number once
  pub in_order : order ≡ listed
  pub each_once : EachOnce listed
  -- the calls of the list of demand 3
  pub calls : (b : Book) (c : Call) → First (refuses b c) (applied b c).reply.number
  pub calls_kept : (b : Book) (c : Call) → is_grant (applied b c).reply ≡ false → (applied b c).book ≡ b
  pub openings : (y m d : ℕ) → NumberAlone (opening_refuses y m d) (opening y m d).reply
  -- the reads
  pub left_of_directions : (b : Book) (d hour : ℕ) → NumberAlone (direction_read_refuses b d hour) (read_direction b d hour).reply
  pub left_of_profiles : (b : Book) (p hour : ℕ) → NumberAlone (profile_read_refuses b p hour) (read_profile b p hour).reply
  pub rights : (b : Book) (r : ℕ) → NumberAlone (right_read_refuses b r) (read_right b r).reply
  pub confirmed : (b : Book) (r o i : ℕ) → NumberAlone (confirmed_read_refuses b r o i) (read_confirmed b r o i).reply
  -- the reader and the writer of records
  pub readers : (s : List ℕ) → NumberAlone (reader_refuses s) (reading s).reply
  pub writers : (c : CallRecord) (buffer : List ℕ) → First (writer_refuses c buffer) (writing c buffer).reply.number
  pub writers_kept : (c : CallRecord) (buffer : List ℕ) → is_grant (writing c buffer).reply ≡ false → (writing c buffer).buffer ≡ buffer
