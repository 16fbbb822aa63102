-- What the private workers of a nomination find and leave.
-- Assumes nothing.
use Rattle.std.specs.Prelude.{ℕ, ◌≡◌, List, Result, Ok, Err}
use Rattle.rules.specs.declared.Refusal.{Refusal}
use Rattle.rules.specs.declared.Side.{Side}
use Rattle.rules.specs.Book.{right}
use Rattle.rules.specs.Nominations.{out_of, into_of}
use Rattle.rules.specs.Refusals.{number}
use Rattle.rules.specs.Effects.{effect}
use Rattle.rules.specs.Details.{detail}
use Rattle.rules.specs.Sides.{side_number}
use Rattle.cells.specs.View.{book_of}
use Rattle.pairs.specs.declared.PairKey.{PairKey}
use Rattle.pairs.specs.Work.{Enters}
use Rattle.answers.specs.Promises.{Refused}
use Rattle.nomination_tests.specs.declared.NominationCall.{NominationCall}
use Rattle.nomination_tests.specs.Named.{nominate_of}
use Rattle.nominations.specs.declared.Entry.{Entry}

-- 01, Nominations and matching: the pair of a nomination, by its right, its out party and its in party
abbrev pub key_of : NominationCall → Side → PairKey
key_of c side = record { right = c.right; out = out_of c.sender c.other (side_number side); into = into_of c.sender c.other (side_number side) }

-- ---- the verdict

-- nothing is against the nomination, and this is its entry
pub record Cleared (b : List ℕ) (c : NominationCall) (e : Entry) : Type 0 where
  pub clear : number (book_of b) (nominate_of c) ≡ 0
  pub side_is : side_number e.side ≡ c.side
  pub held_is : e.held ≡ (right (book_of b).rights c.right).mw
  pub enters : Enters b (key_of c e.side) e.pair

-- what the tests of a nomination find is the number of the rules
abbrev pub JudgedNomination : List ℕ → NominationCall → Result Entry Refusal → Type 0
JudgedNomination b c (Ok e) = Cleared b c e
JudgedNomination b c (Err r) = Refused (book_of b) (nominate_of c) r

-- ---- the granted nomination

-- the stores of a granted nomination leave the book of the rules, and its marks
pub record Placed (b : List ℕ) (c : NominationCall) (n : ℕ) (b' : List ℕ) : Type 0 where
  pub number_is : n ≡ detail (book_of b) (nominate_of c)
  pub book_is : book_of b' ≡ effect (book_of b) (nominate_of c)
