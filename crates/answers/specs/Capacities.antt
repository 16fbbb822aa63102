-- A direction or a profile, as an offer sets its MW and a read asks what is left of it: the calls and the reads of both kinds.
-- Assumes nothing.
use Rattle.std.specs.Prelude.{ℕ, ◌+◌, ◌≡◌, Bool, true, false, ◌||◌, Option, Some, None}
use Rattle.rules.specs.Book.{Book, model_of}
use Rattle.rules.specs.Calls.{Call, OfferDirection, OfferProfile}
use Rattle.rules.specs.Refusals.{direction_unknown, profile_unknown, hour_unknown}
use Rattle.rules.specs.Reads.{LeftReply, read_direction, read_profile}
use Rattle.rules.specs.declared.Hour.{Hour}
use Rattle.cells.specs.declared.Place.{Place}
use Rattle.answers.specs.declared.Capacity.{Capacity}
use Rattle.answers.specs.declared.Capacity.TheVariants.{Direction, Profile}

-- it isn't there
abbrev pub capacity_unknown : Book → Capacity → Bool
capacity_unknown b (Direction d) = direction_unknown b d
capacity_unknown b (Profile p) = profile_unknown b p

-- its row among the offers and the granted MW: 0 to 23 for the directions, 24 to 31 for the profiles
abbrev pub row_of : Capacity → ℕ
row_of (Direction d) = d
row_of (Profile p) = 24 + p

-- the model of the sessions whose windows an offer for it keeps: a profile's hour is taken as a one-hour session
abbrev pub offered_model : Book → Capacity → ℕ
offered_model b (Direction d) = model_of b d
offered_model b (Profile p) = 1

-- the call that offers it
abbrev pub offer_of : Capacity → ℕ → ℕ → ℕ → Call
offer_of (Direction d) time hour mw = OfferDirection time d hour mw
offer_of (Profile p) time hour mw = OfferProfile time p hour mw

-- the read of what is left of it
abbrev pub read_left : Book → Capacity → ℕ → LeftReply
read_left b (Direction d) hour = read_direction b d hour
read_left b (Profile p) hour = read_profile b p hour

-- its place in an hour, or none where it or the hour isn't there
abbrev pub Finds : Book → Capacity → Hour → Option Place → Type 0
Finds b c hour None = (capacity_unknown b c || hour_unknown b hour.0) ≡ true
Finds b c hour (Some place) = ((capacity_unknown b c || hour_unknown b hour.0) ≡ false) × ((place.row ≡ row_of c) × (place.hour ≡ hour))
