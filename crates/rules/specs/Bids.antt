-- 01, Offers and bids: the search for a shortage, granted MW, rights.
-- Assumes nothing.
use Rattle.std.specs.Prelude.{ℕ, suc, ◌+◌, ◌/◌, ◌%◌, ◌^◌, Bool, true, false, if◌then◌else◌, ◌||◌, ◌&&◌, List, [], ◌∷◌, ◌++◌, nat_lt, ◌==◌, length}
use Rattle.rules.specs.Basics.{bit, mw_at}
use Rattle.rules.specs.Book.{Right, Book, of_profile, holds, left_at}

-- ---- the search for a shortage

-- what it finds: the hour of the day, and 0 for the direction or 1 + the profile's number
pub data Shortage : Type 0 where
  nothing_short : Shortage
  short_at : ℕ → ℕ → Shortage

abbrev pub or_else : Shortage → Shortage → Shortage
or_else nothing_short s = s
or_else (short_at h l) s = short_at h l

abbrev pub is_short : Shortage → Bool
is_short nothing_short = false
is_short (short_at h l) = true

-- profile p, with this map, holds direction d and has less than mw left in the hour
unfoldable pub profile_short : Book → ℕ → ℕ → ℕ → ℕ → ℕ → Bool
profile_short b d hour mw p map = bit map d && nat_lt (left_at b (of_profile p) hour) mw

-- the lowest such profile; the maps are those of the profiles from p on
unfoldable pub short_profile : Book → ℕ → ℕ → ℕ → ℕ → List ℕ → Shortage
short_profile b d hour mw p [] = nothing_short
short_profile b d hour mw p (map ∷ maps) =
    if profile_short b d hour mw p map then short_at hour (suc p) else short_profile b d hour mw (suc p) maps

-- in one hour the direction goes before the profiles
unfoldable pub short_hour : Book → ℕ → ℕ → ℕ → Shortage
short_hour b d hour mw = if nat_lt (left_at b d hour) mw then short_at hour 0 else short_profile b d hour mw 0 b.profiles

-- the first hour that is short, of MW for the hours from `hour` on
unfoldable pub shortage : Book → ℕ → ℕ → List ℕ → Shortage
shortage b d hour [] = nothing_short
shortage b d hour (mw ∷ mws) = or_else (short_hour b d hour mw) (shortage b d (suc hour) mws)

-- ---- granted MW

-- what a bid on direction d, for MW from the hour `first` on, takes of a row of capacity in an hour
unfoldable pub share : List ℕ → ℕ → ℕ → List ℕ → ℕ → ℕ → ℕ
share maps d first mw row hour = if holds maps d row then mw_at first mw hour else 0

-- the granted MW with that bid; the list is that of the places from i on
unfoldable pub with_bid : List ℕ → ℕ → ℕ → List ℕ → ℕ → List ℕ → List ℕ
with_bid maps d first mw i [] = []
with_bid maps d first mw i (x ∷ xs) = (x + share maps d first mw (i / 25) (1 + i % 25)) ∷ with_bid maps d first mw (suc i) xs

-- ---- rights

-- the numbers of a cell are below this
abbrev pub cell_values : ℕ
cell_values = 2 ^ 32

-- the MW of a standing right and of a bid, hour by hour, in cells. That no sum wraps is part of demand 3.
unfoldable pub wrap_added : List ℕ → List ℕ → List ℕ
wrap_added [] ys = ys
wrap_added (x ∷ xs) [] = x ∷ xs
wrap_added (x ∷ xs) (y ∷ ys) = (x + y) % cell_values ∷ wrap_added xs ys

-- the right of a holder, direction and session
unfoldable pub is_right_of : ℕ → ℕ → ℕ → Right → Bool
is_right_of h d s x = x.holder == h && x.direction == d && x.session == s

unfoldable pub right_taken : ℕ → ℕ → ℕ → List Right → Bool
right_taken h d s [] = false
right_taken h d s (x ∷ xs) = is_right_of h d s x || right_taken h d s xs

-- four-hour model: to the standing right of that holder, direction and session, or else a new one
unfoldable pub added_right : ℕ → ℕ → ℕ → List ℕ → List Right → List Right
added_right h d s mw [] = record { holder = h; direction = d; session = s; mw = mw } ∷ []
added_right h d s mw (x ∷ xs) =
    if is_right_of h d s x then record { holder = x.holder; direction = x.direction; session = x.session; mw = wrap_added x.mw mw } ∷ xs else x ∷ added_right h d s mw xs

-- one-hour model: a new right for each bid
unfoldable pub with_right : ℕ → ℕ → ℕ → ℕ → List ℕ → List Right → List Right
with_right model h d s mw rs =
    if model == 1 then rs ++ (record { holder = h; direction = d; session = s; mw = mw } ∷ []) else added_right h d s mw rs

-- the number of the standing right, or the next number
unfoldable pub right_from : ℕ → ℕ → ℕ → List Right → ℕ
right_from h d s [] = 0
right_from h d s (x ∷ xs) = if is_right_of h d s x then 0 else suc (right_from h d s xs)

unfoldable pub right_number : ℕ → ℕ → ℕ → ℕ → List Right → ℕ
right_number model h d s rs = if model == 1 then length rs else right_from h d s rs
