-- Entries of the book by their numbers, each found or not there.
-- Assumes nothing.
use Rattle.std.specs.Prelude.{ℕ, ◌≡◌, true, false, ◌||◌, Option, Some, None}
use Rattle.rules.specs.Book.{Book, Right, direction, party, right, model_of}
use Rattle.rules.specs.Refusals.{direction_unknown, party_unknown, right_unknown, session_unknown}
use Rattle.rules.specs.declared.Session.{Session}
use Rattle.day.specs.declared.DaySession.{DaySession}
use Rattle.tables.specs.declared.Direction.{Direction}
use Rattle.tables.specs.Rows.{direction_of}
use Rattle.answers.specs.declared.RightRead.{RightRead}

-- a direction
abbrev pub FindsDirection : Book → ℕ → Option Direction → Type 0
FindsDirection b d None = direction_unknown b d ≡ true
FindsDirection b d (Some x) = (direction_unknown b d ≡ false) × (direction_of x ≡ direction b.directions d)

-- a session of a direction
abbrev pub session_of : Book → ℕ → Session → DaySession
session_of b d s = record { day = record { hours = b.day.hours; weekday = b.day.weekday }; model = model_of b d; session = s }

abbrev pub FindsSession : Book → ℕ → Session → Option DaySession → Type 0
FindsSession b d s None = (direction_unknown b d || session_unknown b d s.0) ≡ true
FindsSession b d s (Some x) = ((direction_unknown b d || session_unknown b d s.0) ≡ false) × (x ≡ session_of b d s)

-- the access map of a party
abbrev pub FindsAccess : Book → ℕ → Option ℕ → Type 0
FindsAccess b p None = party_unknown b p ≡ true
FindsAccess b p (Some map) = (party_unknown b p ≡ false) × (map ≡ (party b.parties p).access)

-- a right as its read answers it
abbrev pub read_of : Right → RightRead
read_of x = record { holder = x.holder; direction = x.direction; session = record { 0 = x.session }; mw = x.mw }

abbrev pub FindsRight : Book → ℕ → Option RightRead → Type 0
FindsRight b r None = right_unknown b r ≡ true
FindsRight b r (Some x) = (right_unknown b r ≡ false) × (x ≡ read_of (right b.rights r))
