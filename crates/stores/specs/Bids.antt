-- Granted MW and a right's MW after a bid: over cells, as the workers leave them, and the granted MW over the list of the rules. Sums are those of 32 bits.
-- Assumes nothing.
use Rattle.std.specs.Prelude.{ℕ, suc, ◌+◌, ◌/◌, ◌%◌, ◌^◌, if◌then◌else◌, List, [], ◌∷◌, get_or, set}
use Rattle.rules.specs.Basics.{bit}
use Rattle.rules.specs.Book.{place, of_profile}
use Rattle.rules.specs.Bids.{share}
use Rattle.cells.specs.Loops.{repeated}
use Rattle.cells.specs.Layout.{PROFILES, GRANTED}
use Rattle.cells.specs.View.{cell}

-- mw more in one cell
abbrev pub added_cell : ℕ → ℕ → List ℕ → List ℕ
added_cell at mw b = set b at ((cell b at + mw) % 2 ^ 32)

-- of profile p, where it holds the direction; a direction and its hours by number, since `SessionHours` lies in `capacity`, above
unfoldable pub granted_profile : ℕ → ℕ → ℕ → ℕ → List ℕ → List ℕ
granted_profile d hour mw p b = if bit (cell b (PROFILES + 1 + p)) d then added_cell (GRANTED + place (of_profile p) hour) mw b else b

-- of the direction, and of n profiles
unfoldable pub granted_hour : ℕ → ℕ → ℕ → ℕ → List ℕ → List ℕ
granted_hour n d hour mw b = repeated (granted_profile d hour mw) n 0 (added_cell (GRANTED + place d hour) mw b)

-- of hour number k
unfoldable pub granted_next : ℕ → ℕ → ℕ → List ℕ → ℕ → List ℕ → List ℕ
granted_next n d first mw k b = granted_hour n d (first + k) (get_or mw k 0) b

-- of `count` hours
unfoldable pub granted_hours : ℕ → ℕ → ℕ → ℕ → List ℕ → List ℕ → List ℕ
granted_hours n d first count mw b = repeated (granted_next n d first mw) count 0 b

-- number k of the five MW of a right, from cell `at` on, with that of a bid
unfoldable pub added_next : ℕ → List ℕ → ℕ → List ℕ → List ℕ
added_next at mw k b = added_cell (at + k) (get_or mw k 0) b

-- all five
unfoldable pub added_five : ℕ → List ℕ → List ℕ → List ℕ
added_five at mw b = repeated (added_next at mw) 5 0 b

-- the rules' `with_bid`, with sums of 32 bits
unfoldable pub with_bid_mw : List ℕ → ℕ → ℕ → List ℕ → ℕ → List ℕ → List ℕ
with_bid_mw maps d first mw i [] = []
with_bid_mw maps d first mw i (x ∷ xs) = ((x + share maps d first mw (i / 25) (1 + i % 25)) % 2 ^ 32) ∷ with_bid_mw maps d first mw (suc i) xs
