-- What the searches in the table of rights find, and what a granted bid leaves there.
-- Assumes nothing.
use Rattle.std.specs.Prelude.{ℕ, ◌<◌, ◌≡◌, if◌then◌else◌, List, ◌∷◌, ◌==◌, nat_le, length, Option, Some, None, Result, Ok, Err}
use Rattle.std.specs.List.{position}
use Rattle.rules.specs.Book.{right_limit}
use Rattle.rules.specs.declared.Refusal.{Refusal}
use Rattle.rules.specs.declared.Refusal.TheVariants.{Full}
use Rattle.rules.specs.Bids.{is_right_of, with_right, right_number}
use Rattle.cells.specs.Layout.{CELLS, RIGHTS}
use Rattle.cells.specs.View.{counted, book_of, Cells}
use Rattle.stores.specs.Stores.{with_row}
use Rattle.cells.specs.Updates.{with_rights}
use Rattle.tables.specs.declared.RightKey.{RightKey}
use Rattle.rights.specs.declared.RightOfBid.{RightOfBid}

-- ---- the standing right

-- 01, Offers and bids: the number of the first right of a holder, direction and session
unfoldable pub standing_right : List ℕ → RightKey → Option ℕ
standing_right b key = position (is_right_of key.holder key.direction key.session.0) (book_of b).rights

-- the right that takes the MW of a bid: none in the one-hour model
unfoldable pub right_for : List ℕ → RightOfBid → Option ℕ
right_for b x = if x.model == 1 then None else standing_right b x.key

-- ---- the entry of a bid

-- in a full table: the right found, or no room
abbrev pub entry_of : Option ℕ → Result (Option ℕ) Refusal
entry_of (Some i) = Ok (Some i)
entry_of None = Err Full

-- in a full table the right that takes the MW; with room nothing is searched
unfoldable pub entry_in : List ℕ → RightOfBid → Result (Option ℕ) Refusal
entry_in b x = if nat_le right_limit (counted b RIGHTS right_limit) then entry_of (right_for b x) else Ok None

-- the entry of a bid that 13 does not refuse
pub record Enters (b : List ℕ) (x : RightOfBid) (e : Option ℕ) : Type 0 where
  pub entry_is : Ok e ≡ entry_in b x

-- ---- the right of a granted bid

-- a new right is the row after the last
pub record NewRight (b : List ℕ) (key : RightKey) (mw : List ℕ) (n : ℕ) (b' : List ℕ) : Type 0 where
  pub cells : Cells b
  pub mw_five : length mw ≡ 5
  pub bytes : (key.holder < 256) × (key.direction < 256) × (key.session.0 < 256)
  pub number_is : n ≡ counted b RIGHTS right_limit
  pub cells_are : b' ≡ with_row RIGHTS n (key.holder ∷ key.direction ∷ key.session.0 ∷ mw) b

-- the standing right took the MW, or a new one did
pub record Booked (b : List ℕ) (x : RightOfBid) (mw : List ℕ) (n : ℕ) (b' : List ℕ) : Type 0 where
  pub count : length b' ≡ CELLS
  pub number_is : n ≡ right_number x.model x.key.holder x.key.direction x.key.session.0 (book_of b).rights
  pub book_is : book_of b' ≡ with_rights (book_of b) (with_right x.model x.key.holder x.key.direction x.key.session.0 mw (book_of b).rights)
