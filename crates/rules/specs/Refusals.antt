-- 01, What the book says no to: one condition for each number, and the order in which they count.
-- A number that cannot apply to a call is false there. The opening, the reads and the records use `order` and `first_of` too.
-- Assumes nothing.
use Rattle.std.specs.Prelude.{ℕ, ◌^◌, Bool, true, false, if◌then◌else◌, ◌||◌, ◌&&◌, not, List, [], ◌∷◌, nat_le, nat_lt, ◌==◌, length, get_or, drop}
use Rattle.std.specs.Int.Count.{ones}
use Rattle.rules.specs.Basics.{bit, any_above}
use Rattle.rules.specs.Sessions.{session_there, first_hour, hours_in}
use Rattle.rules.specs.Windows.{latest, bid_timing, nomination_timing, offer_timing, matching_timing}
use Rattle.rules.specs.Codes.{is_code}
use Rattle.rules.specs.Book.{Direction, Right, Book, flag, direction, party, right, model_of, direction_limit, pair_limit, party_limit, profile_limit, right_limit}
use Rattle.rules.specs.Calls.{Call, AddDirection, AddProfile, AddParty, OfferDirection, OfferProfile, Bid, Nominate, Match}
use Rattle.rules.specs.Setup.{direction_taken, code_taken}
use Rattle.rules.specs.Bids.{Shortage, nothing_short, is_short, shortage, right_taken}
use Rattle.rules.specs.Nominations.{out_of, into_of, pair_taken}
use Rattle.rules.specs.declared.Timing.{Timing}
use Rattle.rules.specs.declared.Timing.TheVariants.{Early, Within, Late}

-- ---- the order

-- the order in which the conditions are asked: 01's, with 16 in 8's place, just before it (02, S-1), without 14 (02, S-2), and with 17 in the place of 2,
-- which no longer occurs (02, S-3)
unfoldable pub order : List ℕ
order = 1 ∷ 17 ∷ 3 ∷ 4 ∷ 5 ∷ 6 ∷ 7 ∷ 16 ∷ 8 ∷ 9 ∷ 10 ∷ 11 ∷ 12 ∷ 13 ∷ 15 ∷ []

-- the numbers before n
unfoldable pub before : ℕ → List ℕ → List ℕ
before n [] = []
before n (m ∷ ms) = if m == n then [] else m ∷ before n ms

-- the first of the numbers whose condition holds, or 0
unfoldable pub first_of : (ℕ → Bool) → List ℕ → ℕ
first_of f [] = 0
first_of f (n ∷ ns) = if f n then n else first_of f ns

-- ---- 3 field

unfoldable pub field : Book → Call → Bool
field b (AddDirection o i m) = nat_lt 6 o || nat_lt 6 i || o == i || not (m == 1 || m == 4)
field b (AddProfile map) = nat_lt (ones map) 2
field b (AddParty code access) = access == 0 || nat_lt 127 access || not (is_code code)
field b (OfferDirection time d hour mw) = nat_lt latest time || nat_lt 9999 mw
field b (OfferProfile time p hour mw) = nat_lt latest time || nat_lt 9999 mw
field b (Bid time p d session mw) = nat_lt latest time || any_above 9999 mw
field b (Nominate time sender other r side mw) = nat_lt latest time || nat_lt 1 side || any_above 9999 mw
field b (Match time d session) = nat_lt latest time

-- ---- 4 set-up shut

unfoldable pub setup_shut : Book → Call → Bool
setup_shut b (AddDirection o i m) = b.started
setup_shut b (AddProfile map) = b.started
setup_shut b (AddParty code access) = b.started
setup_shut b (OfferDirection time d hour mw) = false
setup_shut b (OfferProfile time p hour mw) = false
setup_shut b (Bid time p d session mw) = false
setup_shut b (Nominate time sender other r side mw) = false
setup_shut b (Match time d session) = false

-- ---- 5 clock

unfoldable pub clock : Book → Call → Bool
clock b (AddDirection o i m) = false
clock b (AddProfile map) = false
clock b (AddParty code access) = false
clock b (OfferDirection time d hour mw) = nat_lt time b.clock
clock b (OfferProfile time p hour mw) = nat_lt time b.clock
clock b (Bid time p d session mw) = nat_lt time b.clock
clock b (Nominate time sender other r side mw) = nat_lt time b.clock
clock b (Match time d session) = nat_lt time b.clock

-- ---- 6 unknown

abbrev pub direction_unknown : Book → ℕ → Bool
direction_unknown b d = nat_le (length b.directions) d

abbrev pub profile_unknown : Book → ℕ → Bool
profile_unknown b p = nat_le (length b.profiles) p

abbrev pub party_unknown : Book → ℕ → Bool
party_unknown b p = nat_le (length b.parties) p

abbrev pub right_unknown : Book → ℕ → Bool
right_unknown b r = nat_le (length b.rights) r

abbrev pub session_unknown : Book → ℕ → ℕ → Bool
session_unknown b d session = not (session_there b.day.hours (model_of b d) session)

unfoldable pub hour_unknown : Book → ℕ → Bool
hour_unknown b hour = nat_lt hour 1 || nat_lt b.day.hours hour

-- for a profile: a bit of a direction that is not there
unfoldable pub unknown : Book → Call → Bool
unknown b (AddDirection o i m) = false
unknown b (AddProfile map) = nat_le (2 ^ length b.directions) map
unknown b (AddParty code access) = false
unknown b (OfferDirection time d hour mw) = direction_unknown b d || hour_unknown b hour
unknown b (OfferProfile time p hour mw) = profile_unknown b p || hour_unknown b hour
unknown b (Bid time p d session mw) = party_unknown b p || direction_unknown b d || session_unknown b d session
unknown b (Nominate time sender other r side mw) = party_unknown b sender || party_unknown b other || right_unknown b r
unknown b (Match time d session) = direction_unknown b d || session_unknown b d session

-- ---- 7 taken

unfoldable pub taken : Book → Call → Bool
taken b (AddDirection o i m) = direction_taken o i m b.directions
taken b (AddProfile map) = false
taken b (AddParty code access) = code_taken code b.parties
taken b (OfferDirection time d hour mw) = false
taken b (OfferProfile time p hour mw) = false
taken b (Bid time p d session mw) = false
taken b (Nominate time sender other r side mw) = false
taken b (Match time d session) = false

-- ---- 16 too early, 8 too late

-- where the time of a call stands to its window; set-up has none. Of a nomination: the direction and session of its right
unfoldable pub timing_of : Book → Call → Timing
timing_of b (AddDirection o i m) = Within
timing_of b (AddProfile map) = Within
timing_of b (AddParty code access) = Within
timing_of b (OfferDirection time d hour mw) = offer_timing b.day.hours b.day.weekday (model_of b d) hour time
timing_of b (OfferProfile time p hour mw) = offer_timing b.day.hours b.day.weekday 1 hour time
timing_of b (Bid time p d session mw) = bid_timing b.day.hours b.day.weekday (model_of b d) session time
timing_of b (Nominate time sender other r side mw) =
    let x : Right = right b.rights r in
    nomination_timing b.day.hours b.day.weekday (model_of b x.direction) x.session time
timing_of b (Match time d session) = matching_timing b.day.hours b.day.weekday (model_of b d) session time

-- 16: before the opening, or a bid in the Wednesday hold
abbrev pub too_early : Timing → Bool
too_early Early = true
too_early Within = false
too_early Late = false

-- 8: at or after the close
abbrev pub too_late : Timing → Bool
too_late Early = false
too_late Within = false
too_late Late = true

-- ---- 9 hours

-- MW above 0 for an hour that the session of direction d lacks
unfoldable pub hours_lacking : Book → ℕ → ℕ → List ℕ → Bool
hours_lacking b d session mw = any_above 0 (drop (hours_in b.day.hours (model_of b d) session) mw)

unfoldable pub wrong_hours : Book → Call → Bool
wrong_hours b (AddDirection o i m) = false
wrong_hours b (AddProfile map) = false
wrong_hours b (AddParty code access) = false
wrong_hours b (OfferDirection time d hour mw) = false
wrong_hours b (OfferProfile time p hour mw) = false
wrong_hours b (Bid time p d session mw) = hours_lacking b d session mw || not (any_above 0 mw)
wrong_hours b (Nominate time sender other r side mw) =
    let x : Right = right b.rights r in
    hours_lacking b x.direction x.session mw
wrong_hours b (Match time d session) = false

-- ---- 10 access

-- a bid's party needs one of the two operators, a nomination's sender that of its side
unfoldable pub no_access : Book → Call → Bool
no_access b (AddDirection o i m) = false
no_access b (AddProfile map) = false
no_access b (AddParty code access) = false
no_access b (OfferDirection time d hour mw) = false
no_access b (OfferProfile time p hour mw) = false
no_access b (Bid time p d session mw) =
    let a : ℕ = (party b.parties p).access in
    let x : Direction = direction b.directions d in
    not (bit a x.out || bit a x.into)
no_access b (Nominate time sender other r side mw) =
    let a : ℕ = (party b.parties sender).access in
    let x : Direction = direction b.directions (right b.rights r).direction in
    not (bit a (if side == 0 then x.out else x.into))
no_access b (Match time d session) = false

-- ---- 11 owner

unfoldable pub not_owner : Book → Call → Bool
not_owner b (AddDirection o i m) = false
not_owner b (AddProfile map) = false
not_owner b (AddParty code access) = false
not_owner b (OfferDirection time d hour mw) = false
not_owner b (OfferProfile time p hour mw) = false
not_owner b (Bid time p d session mw) = false
not_owner b (Nominate time sender other r side mw) =
    let h : ℕ = (right b.rights r).holder in
    not (h == sender || h == other)
not_owner b (Match time d session) = false

-- ---- 12 cycle

-- the direction's session was matched
unfoldable pub is_matched : List ℕ → ℕ → ℕ → Bool
is_matched flags d session = get_or flags (flag d session) 0 == 1

unfoldable pub cycle : Book → Call → Bool
cycle b (AddDirection o i m) = false
cycle b (AddProfile map) = false
cycle b (AddParty code access) = false
cycle b (OfferDirection time d hour mw) = false
cycle b (OfferProfile time p hour mw) = false
cycle b (Bid time p d session mw) = false
cycle b (Nominate time sender other r side mw) = false
cycle b (Match time d session) = is_matched b.matched d session

-- ---- 13 full

-- a four-hour bid needs a new right, and a nomination a new pair, only where none stands
unfoldable pub full : Book → Call → Bool
full b (AddDirection o i m) = nat_le direction_limit (length b.directions)
full b (AddProfile map) = nat_le profile_limit (length b.profiles)
full b (AddParty code access) = nat_le party_limit (length b.parties)
full b (OfferDirection time d hour mw) = false
full b (OfferProfile time p hour mw) = false
full b (Bid time p d session mw) =
    nat_le right_limit (length b.rights) && (model_of b d == 1 || not (right_taken p d session b.rights))
full b (Nominate time sender other r side mw) =
    nat_le pair_limit (length b.pairs) && not (pair_taken r (out_of sender other side) (into_of sender other side) b.pairs)
full b (Match time d session) = false

-- ---- 15 short

unfoldable pub shortage_of : Book → Call → Shortage
shortage_of b (AddDirection o i m) = nothing_short
shortage_of b (AddProfile map) = nothing_short
shortage_of b (AddParty code access) = nothing_short
shortage_of b (OfferDirection time d hour mw) = nothing_short
shortage_of b (OfferProfile time p hour mw) = nothing_short
shortage_of b (Bid time p d session mw) = shortage b d (first_hour b.day.hours (model_of b d) session) mw
shortage_of b (Nominate time sender other r side mw) = nothing_short
shortage_of b (Match time d session) = nothing_short

-- ---- the table

-- condition number n holds; 1 and 2 never apply to these calls, and there is no 14 (02, S-2)
unfoldable pub refuses : Book → Call → ℕ → Bool
refuses b c n =
    if n == 3 then field b c
    else if n == 4 then setup_shut b c
    else if n == 5 then clock b c
    else if n == 6 then unknown b c
    else if n == 7 then taken b c
    else if n == 16 then too_early (timing_of b c)
    else if n == 8 then too_late (timing_of b c)
    else if n == 9 then wrong_hours b c
    else if n == 10 then no_access b c
    else if n == 11 then not_owner b c
    else if n == 12 then cycle b c
    else if n == 13 then full b c
    else if n == 15 then is_short (shortage_of b c) else false

-- the number of the reply: 0, or the first in the order whose condition holds
abbrev pub number : Book → Call → ℕ
number b c = first_of (refuses b c) order
