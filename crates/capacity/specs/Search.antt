-- The hours of a session, the place of an hour in a profile, and what the search found in the rules' terms.
-- A direction and its hours stand by their numbers, as in `stores`, which doesn't know `SessionHours`.
-- Assumes nothing.
use Rattle.std.specs.Prelude.{ℕ, suc, ◌+◌, ◌<◌, ◌≤◌, ◌≡◌, true, false, List, Option, Some, None}
use Rattle.rules.specs.Basics.{bit}
use Rattle.rules.specs.Book.{of_profile, direction_limit}
use Rattle.rules.specs.Bids.{Shortage, nothing_short, short_at}
use Rattle.cells.specs.Layout.{PROFILES}
use Rattle.cells.specs.View.{cell}
use Rattle.cells.specs.declared.Place.{Place}
use Rattle.rules.specs.declared.Hour.{Hour}
use Rattle.rules.specs.declared.CapacityOf.{CapacityOf}
use Rattle.rules.specs.declared.CapacityOf.TheVariants.{Direction, Profile}

-- n hours of the day from hour h on, for a direction d
pub record Hours (d h n : ℕ) : Type 0 where
  pub direction : d < direction_limit
  pub few : n ≤ 5
  pub first : 1 ≤ h
  pub last : h + n ≤ 26

-- an hour that some day has, of a direction
pub record InDirection (d hour : ℕ) : Type 0 where
  pub direction : d < direction_limit
  pub from : 1 ≤ hour
  pub to : hour ≤ 25

-- the place of an hour in profile p: none where the profile does not hold the direction
abbrev pub InProfile : List ℕ → ℕ → Hour → ℕ → Option Place → Type 0
InProfile b d hour p None = bit (cell b (PROFILES + 1 + p)) d ≡ false
InProfile b d hour p (Some place) = (bit (cell b (PROFILES + 1 + p)) d ≡ true) × ((place.row ≡ of_profile p) × (place.hour ≡ hour))

-- what was found, as a shortage of the rules
abbrev pub as_shortage : Option (Hour × CapacityOf) → Shortage
as_shortage None = nothing_short
as_shortage (Some (h, Direction)) = short_at h.0 0
as_shortage (Some (h, Profile p)) = short_at h.0 (suc p)
