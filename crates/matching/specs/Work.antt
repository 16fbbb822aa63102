-- The call that a matching makes, and what its private workers find and leave.
-- Assumes nothing.
use Rattle.std.specs.Prelude.{ℕ, ◌+◌, ◌≡◌, Bool, ◌&&◌, List, ◌==◌, set}
use Rattle.rules.specs.Book.{Right, flag}
use Rattle.rules.specs.Calls.{Call, Match}
use Rattle.rules.specs.Nominations.{count_rights}
use Rattle.cells.specs.Layout.{MATCHED}
use Rattle.cells.specs.View.{Cells, book_of}
use Rattle.stores.specs.Stores.{clocked}
use Rattle.matching.specs.declared.MatchCall.{MatchCall}

-- 01, The list of demand 3: the call, by its numbers
abbrev pub match_of : MatchCall → Call
match_of call = Match call.time call.direction call.session.0

-- 01, Nominations and matching: a right of the direction and session
unfoldable pub is_of : ℕ → ℕ → Right → Bool
is_of d s x = x.direction == d && x.session == s

-- the flag of the session is set, and the clock; the count of the session's rights
pub record Placed (b : List ℕ) (call : MatchCall) (count : ℕ) (b' : List ℕ) : Type 0 where
  pub cells : Cells b
  pub count_is : count ≡ count_rights call.direction call.session.0 (book_of b).rights
  pub cells_are : b' ≡ clocked call.time (set b (MATCHED + flag call.direction call.session.0) 1)
