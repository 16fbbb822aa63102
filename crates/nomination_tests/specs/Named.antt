-- A nomination, and what it names in the book.
-- Assumes nothing.
use Rattle.std.specs.Prelude.{◌≡◌, Bool, true, false, ◌||◌, Option, Some, None}
use Rattle.rules.specs.Book.{Book, direction, party, right}
use Rattle.rules.specs.Calls.{Call, Nominate}
use Rattle.rules.specs.Refusals.{party_unknown, right_unknown}
use Rattle.tables.specs.Rows.{direction_of}
use Rattle.answers.specs.Entries.{session_of, read_of}
use Rattle.nomination_tests.specs.declared.NominationCall.{NominationCall}
use Rattle.nomination_tests.specs.declared.Named.{Named}

-- the call of the rules
abbrev pub nominate_of : NominationCall → Call
nominate_of c = Nominate c.time c.sender c.other c.right c.side c.mw

-- 6: a party or the right isn't there
abbrev pub unnamed : Book → NominationCall → Bool
unnamed b c = party_unknown b c.sender || party_unknown b c.other || right_unknown b c.right

-- both parties and the right are there, and this is what the nomination names
pub record IsNamed (b : Book) (c : NominationCall) (x : Named) : Type 0 where
  pub known : unnamed b c ≡ false
  pub access : x.access ≡ (party b.parties c.sender).access
  pub right_is : x.right ≡ read_of (right b.rights c.right)
  pub direction_is : direction_of x.direction ≡ direction b.directions x.right.direction
  pub session_is : x.session ≡ session_of b x.right.direction x.right.session

abbrev pub FindsNamed : Book → NominationCall → Option Named → Type 0
FindsNamed b c None = unnamed b c ≡ true
FindsNamed b c (Some x) = IsNamed b c x
