-- What each part of the book is after a granted call. A clause for each call, so that what a call leaves alone is seen at once.
-- Assumes nothing.
use Rattle.std.specs.Prelude.{ℕ, Bool, true, false, ◌||◌, List, [], ◌∷◌, ◌++◌, set}
use Rattle.rules.specs.Sessions.{first_hour}
use Rattle.rules.specs.Book.{Direction, Party, Right, Pair, Book, place, flag, of_profile, direction}
use Rattle.rules.specs.Calls.{Call, AddDirection, AddProfile, AddParty, OfferDirection, OfferProfile, Bid, Nominate, Match}
use Rattle.rules.specs.Bids.{with_bid, with_right}
use Rattle.rules.specs.Nominations.{out_of, into_of, with_pair}

-- a timed call shuts set-up, and its time is the clock's
unfoldable pub is_timed : Call → Bool
is_timed (AddDirection o i m) = false
is_timed (AddProfile map) = false
is_timed (AddParty code access) = false
is_timed (OfferDirection time d hour mw) = true
is_timed (OfferProfile time p hour mw) = true
is_timed (Bid time p d session mw) = true
is_timed (Nominate time sender other r side mw) = true
is_timed (Match time d session) = true

unfoldable pub clock_after : ℕ → Call → ℕ
clock_after clock (AddDirection o i m) = clock
clock_after clock (AddProfile map) = clock
clock_after clock (AddParty code access) = clock
clock_after clock (OfferDirection time d hour mw) = time
clock_after clock (OfferProfile time p hour mw) = time
clock_after clock (Bid time p d session mw) = time
clock_after clock (Nominate time sender other r side mw) = time
clock_after clock (Match time d session) = time

unfoldable pub directions_after : List Direction → Call → List Direction
directions_after ds (AddDirection o i m) = ds ++ (record { out = o; into = i; model = m } ∷ [])
directions_after ds (AddProfile map) = ds
directions_after ds (AddParty code access) = ds
directions_after ds (OfferDirection time d hour mw) = ds
directions_after ds (OfferProfile time p hour mw) = ds
directions_after ds (Bid time p d session mw) = ds
directions_after ds (Nominate time sender other r side mw) = ds
directions_after ds (Match time d session) = ds

unfoldable pub profiles_after : List ℕ → Call → List ℕ
profiles_after maps (AddDirection o i m) = maps
profiles_after maps (AddProfile map) = maps ++ (map ∷ [])
profiles_after maps (AddParty code access) = maps
profiles_after maps (OfferDirection time d hour mw) = maps
profiles_after maps (OfferProfile time p hour mw) = maps
profiles_after maps (Bid time p d session mw) = maps
profiles_after maps (Nominate time sender other r side mw) = maps
profiles_after maps (Match time d session) = maps

unfoldable pub parties_after : List Party → Call → List Party
parties_after ps (AddDirection o i m) = ps
parties_after ps (AddProfile map) = ps
parties_after ps (AddParty code access) = ps ++ (record { code = code; access = access } ∷ [])
parties_after ps (OfferDirection time d hour mw) = ps
parties_after ps (OfferProfile time p hour mw) = ps
parties_after ps (Bid time p d session mw) = ps
parties_after ps (Nominate time sender other r side mw) = ps
parties_after ps (Match time d session) = ps

unfoldable pub offered_after : List ℕ → Call → List ℕ
offered_after offers (AddDirection o i m) = offers
offered_after offers (AddProfile map) = offers
offered_after offers (AddParty code access) = offers
offered_after offers (OfferDirection time d hour mw) = set offers (place d hour) mw
offered_after offers (OfferProfile time p hour mw) = set offers (place (of_profile p) hour) mw
offered_after offers (Bid time p d session mw) = offers
offered_after offers (Nominate time sender other r side mw) = offers
offered_after offers (Match time d session) = offers

-- the granted MW, with the day's hours, the directions and the profiles' maps
unfoldable pub granted_after : ℕ → List Direction → List ℕ → List ℕ → Call → List ℕ
granted_after n ds maps mws (AddDirection o i m) = mws
granted_after n ds maps mws (AddProfile map) = mws
granted_after n ds maps mws (AddParty code access) = mws
granted_after n ds maps mws (OfferDirection time d hour mw) = mws
granted_after n ds maps mws (OfferProfile time p hour mw) = mws
granted_after n ds maps mws (Bid time p d session mw) = with_bid maps d (first_hour n (direction ds d).model session) mw 0 mws
granted_after n ds maps mws (Nominate time sender other r side mw) = mws
granted_after n ds maps mws (Match time d session) = mws

unfoldable pub rights_after : List Direction → List Right → Call → List Right
rights_after ds rs (AddDirection o i m) = rs
rights_after ds rs (AddProfile map) = rs
rights_after ds rs (AddParty code access) = rs
rights_after ds rs (OfferDirection time d hour mw) = rs
rights_after ds rs (OfferProfile time p hour mw) = rs
rights_after ds rs (Bid time p d session mw) = with_right (direction ds d).model p d session mw rs
rights_after ds rs (Nominate time sender other r side mw) = rs
rights_after ds rs (Match time d session) = rs

unfoldable pub pairs_after : List Pair → Call → List Pair
pairs_after ps (AddDirection o i m) = ps
pairs_after ps (AddProfile map) = ps
pairs_after ps (AddParty code access) = ps
pairs_after ps (OfferDirection time d hour mw) = ps
pairs_after ps (OfferProfile time p hour mw) = ps
pairs_after ps (Bid time p d session mw) = ps
pairs_after ps (Nominate time sender other r side mw) = with_pair r (out_of sender other side) (into_of sender other side) side mw ps
pairs_after ps (Match time d session) = ps

unfoldable pub matched_after : List ℕ → Call → List ℕ
matched_after flags (AddDirection o i m) = flags
matched_after flags (AddProfile map) = flags
matched_after flags (AddParty code access) = flags
matched_after flags (OfferDirection time d hour mw) = flags
matched_after flags (OfferProfile time p hour mw) = flags
matched_after flags (Bid time p d session mw) = flags
matched_after flags (Nominate time sender other r side mw) = flags
matched_after flags (Match time d session) = set flags (flag d session) 1

-- the book after a granted call, part by part
unfoldable pub effect : Book → Call → Book
effect b c =
    record {
      day = b.day;
      started = b.started || is_timed c;
      clock = clock_after b.clock c;
      directions = directions_after b.directions c;
      profiles = profiles_after b.profiles c;
      parties = parties_after b.parties c;
      offered = offered_after b.offered c;
      granted = granted_after b.day.hours b.directions b.profiles b.granted c;
      rights = rights_after b.directions b.rights c;
      pairs = pairs_after b.pairs c;
      matched = matched_after b.matched c;
    }
