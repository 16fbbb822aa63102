-- A book with one part replaced: what the stores of a call do to the book that the cells hold.
-- Assumes nothing.
use Rattle.std.specs.Prelude.{ℕ, true, List}
use Rattle.rules.specs.Book.{Direction, Party, Right, Pair, Book}

abbrev pub with_directions : Book → List Direction → Book
with_directions b x = record b { directions = x }

abbrev pub with_profiles : Book → List ℕ → Book
with_profiles b x = record b { profiles = x }

abbrev pub with_parties : Book → List Party → Book
with_parties b x = record b { parties = x }

abbrev pub with_offered : Book → List ℕ → Book
with_offered b x = record b { offered = x }

abbrev pub with_granted : Book → List ℕ → Book
with_granted b x = record b { granted = x }

abbrev pub with_rights : Book → List Right → Book
with_rights b x = record b { rights = x }

abbrev pub with_pairs : Book → List Pair → Book
with_pairs b x = record b { pairs = x }

abbrev pub with_matched : Book → List ℕ → Book
with_matched b x = record b { matched = x }

-- a timed call shuts set-up, and its time is the clock's
abbrev pub with_clock : Book → ℕ → Book
with_clock b x = record b { started = true; clock = x }
