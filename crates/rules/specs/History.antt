-- 01, The list of demand 3: what it compares the reads with, computed from the day, the calls and their replies alone, never from a book.
-- Shared with the book's effects are the session rule (`first_hour`), the hour that a bid's MW belong to (`mw_at`), the rows that hold a direction (`holds`)
-- and, where 01 says "by the rule above", confirmed MW (`confirmed_of`). Offers, rights, pairs, sides and matchings are written down a second time.
-- Assumes nothing.
use Rattle.std.specs.Prelude.{ℕ, ◌+◌, ◌-◌, min, Bool, false, if◌then◌else◌, ◌&&◌, ◌||◌, not, List, [], ◌∷◌, ◌++◌, map, filter, sum, ◌==◌, nat_le, get_or, length}
use Rattle.rules.specs.Basics.{mw_at, no_mw, five}
use Rattle.rules.specs.Sessions.{first_hour}
use Rattle.rules.specs.Book.{Direction, Right, direction, right, of_profile, holds}
use Rattle.rules.specs.Calls.{Call, AddDirection, AddProfile, AddParty, OfferDirection, OfferProfile, Bid, Nominate, Match, Reply, is_grant}
use Rattle.rules.specs.Nominations.{confirmed_of}
use Rattle.rules.specs.Reads.{ConfirmedReply, confirmed_reply}

-- granted is a call that wasn't refused; in order
unfoldable pub granted_calls : List Call → List Reply → List Call
granted_calls [] replies = []
granted_calls (c ∷ cs) [] = []
granted_calls (c ∷ cs) (a ∷ rest) = if is_grant a then c ∷ granted_calls cs rest else granted_calls cs rest

-- and their replies
unfoldable pub grants : List Reply → List Reply
grants [] = []
grants (a ∷ rest) = if is_grant a then a ∷ grants rest else grants rest

-- All that follows is computed from granted calls.
-- ---- set-up: directions and profiles are those of granted set-up

abbrev adds_direction : Call → List Direction → List Direction
adds_direction (AddDirection o i m) ds = record { out = o; into = i; model = m } ∷ ds
adds_direction (AddProfile map) ds = ds
adds_direction (AddParty code access) ds = ds
adds_direction (OfferDirection time d hour mw) ds = ds
adds_direction (OfferProfile time p hour mw) ds = ds
adds_direction (Bid time p d session mw) ds = ds
adds_direction (Nominate time sender other r side mw) ds = ds
adds_direction (Match time d session) ds = ds

unfoldable pub directions_of : List Call → List Direction
directions_of [] = []
directions_of (c ∷ cs) = adds_direction c (directions_of cs)

abbrev adds_profile : Call → List ℕ → List ℕ
adds_profile (AddDirection o i m) maps = maps
adds_profile (AddProfile map) maps = map ∷ maps
adds_profile (AddParty code access) maps = maps
adds_profile (OfferDirection time d hour mw) maps = maps
adds_profile (OfferProfile time p hour mw) maps = maps
adds_profile (Bid time p d session mw) maps = maps
adds_profile (Nominate time sender other r side mw) maps = maps
adds_profile (Match time d session) maps = maps

unfoldable pub profiles_of : List Call → List ℕ
profiles_of [] = []
profiles_of (c ∷ cs) = adds_profile c (profiles_of cs)

-- ---- capacity

-- the offer of a direction or profile, by its row, in an hour after a call, from what it was before
unfoldable pub offer_after : ℕ → ℕ → ℕ → Call → ℕ
offer_after row hour was (AddDirection o i m) = was
offer_after row hour was (AddProfile map) = was
offer_after row hour was (AddParty code access) = was
offer_after row hour was (OfferDirection time d h mw) = if d == row && h == hour then mw else was
offer_after row hour was (OfferProfile time p h mw) = if of_profile p == row && h == hour then mw else was
offer_after row hour was (Bid time p d session mw) = was
offer_after row hour was (Nominate time sender other r side mw) = was
offer_after row hour was (Match time d session) = was

-- the last granted offer of a row in an hour, `was` where there is none
unfoldable pub last_offer : ℕ → ℕ → ℕ → List Call → ℕ
last_offer row hour was [] = was
last_offer row hour was (c ∷ cs) = last_offer row hour (offer_after row hour was c) cs

-- a bid's MW number k belongs to hour k of its session, on its direction and on each profile that holds it
unfoldable pub bid_mw : ℕ → List Direction → List ℕ → ℕ → ℕ → Call → ℕ
bid_mw n ds maps row hour (AddDirection o i m) = 0
bid_mw n ds maps row hour (AddProfile map) = 0
bid_mw n ds maps row hour (AddParty code access) = 0
bid_mw n ds maps row hour (OfferDirection time d h mw) = 0
bid_mw n ds maps row hour (OfferProfile time p h mw) = 0
bid_mw n ds maps row hour (Bid time p d session mw) =
    if holds maps d row then mw_at (first_hour n (direction ds d).model session) mw hour else 0
bid_mw n ds maps row hour (Nominate time sender other r side mw) = 0
bid_mw n ds maps row hour (Match time d session) = 0

unfoldable pub bid_sum : ℕ → List Direction → List ℕ → ℕ → ℕ → List Call → ℕ
bid_sum n ds maps row hour [] = 0
bid_sum n ds maps row hour (c ∷ cs) = bid_mw n ds maps row hour c + bid_sum n ds maps row hour cs

-- on a day of n hours: the granted MW of a row in an hour
abbrev pub granted_mw : ℕ → List Call → ℕ → ℕ → ℕ
granted_mw n cs row hour = bid_sum n (directions_of cs) (profiles_of cs) row hour cs

-- left: the last granted offer less the granted MW, 0 where they exceed it
abbrev pub left_mw : ℕ → List Call → ℕ → ℕ → ℕ
left_mw n cs row hour = last_offer row hour 0 cs - granted_mw n cs row hour

-- shortfall: the granted MW less the last granted offer, 0 where they don't exceed it (02, S-2)
abbrev pub shortfall_mw : ℕ → List Call → ℕ → ℕ → ℕ
shortfall_mw n cs row hour = granted_mw n cs row hour - last_offer row hour 0 cs

-- ---- rights: none at first; each granted bid in turn makes one or adds its five MW to one

-- MW hour by hour
unfoldable pub added : List ℕ → List ℕ → List ℕ
added [] ys = ys
added (x ∷ xs) [] = x ∷ xs
added (x ∷ xs) (y ∷ ys) = (x + y) ∷ added xs ys

-- one-hour model: a new right. Four-hour model: the first right of that holder, direction and session gets the MW, or else there is a new one
unfoldable pub rights_with : ℕ → ℕ → ℕ → ℕ → List ℕ → List Right → List Right
rights_with model holder d session mw [] = record { holder = holder; direction = d; session = session; mw = mw } ∷ []
rights_with model holder d session mw (x ∷ xs) =
    if not (model == 1) && x.holder == holder && x.direction == d && x.session == session then record { holder = holder; direction = d; session = session; mw = added x.mw mw } ∷ xs else x ∷ rights_with model holder d session mw xs

-- no other call touches them
abbrev pub rights_then : List Direction → List Right → Call → List Right
rights_then ds rs (AddDirection o i m) = rs
rights_then ds rs (AddProfile map) = rs
rights_then ds rs (AddParty code access) = rs
rights_then ds rs (OfferDirection time d h mw) = rs
rights_then ds rs (OfferProfile time p h mw) = rs
rights_then ds rs (Bid time p d session mw) = rights_with (direction ds d).model p d session mw rs
rights_then ds rs (Nominate time sender other r side mw) = rs
rights_then ds rs (Match time d session) = rs

unfoldable pub rights_from : List Direction → List Right → List Call → List Right
rights_from ds rs [] = rs
rights_from ds rs (c ∷ cs) = rights_from ds (rights_then ds rs c) cs

-- the MW of a direction's rights in an hour of the day
unfoldable pub right_sum : ℕ → List Direction → ℕ → ℕ → List Right → ℕ
right_sum n ds d hour [] = 0
right_sum n ds d hour (x ∷ xs) =
    (if d == x.direction then mw_at (first_hour n (direction ds d).model x.session) x.mw hour else 0)
    + right_sum n ds d hour xs

-- ---- nominations

-- on side 0 the sender is the out party, on side 1 the in party
abbrev pub out_party : ℕ → ℕ → ℕ → ℕ
out_party sender other side = if side == 1 then other else sender

abbrev pub into_party : ℕ → ℕ → ℕ → ℕ
into_party sender other side = if side == 1 then sender else other

-- a pair: right, out party, in party
pub record Key : Type 0 where
  pub right : ℕ
  pub out : ℕ
  pub into : ℕ

unfoldable pub is_key : ℕ → ℕ → ℕ → Key → Bool
is_key r o i x = x.right == r && x.out == o && x.into == i

unfoldable pub has_key : ℕ → ℕ → ℕ → List Key → Bool
has_key r o i [] = false
has_key r o i (x ∷ xs) = is_key r o i x || has_key r o i xs

-- a pair is there once a nomination for it was granted
unfoldable pub pairs_with : ℕ → ℕ → ℕ → List Key → List Key
pairs_with r o i ks = if has_key r o i ks then ks else ks ++ (record { right = r; out = o; into = i } ∷ [])

abbrev pub pairs_then : List Key → Call → List Key
pairs_then ks (AddDirection o i m) = ks
pairs_then ks (AddProfile map) = ks
pairs_then ks (AddParty code access) = ks
pairs_then ks (OfferDirection time d h mw) = ks
pairs_then ks (OfferProfile time p h mw) = ks
pairs_then ks (Bid time p d session mw) = ks
pairs_then ks (Nominate time sender other r side mw) = pairs_with r (out_party sender other side) (into_party sender other side) ks
pairs_then ks (Match time d session) = ks

unfoldable pub pairs_from : List Key → List Call → List Key
pairs_from ks [] = ks
pairs_from ks (c ∷ cs) = pairs_from (pairs_then ks c) cs

-- the MW of a side of a pair after a call, from what they were before
unfoldable pub side_after : ℕ → ℕ → ℕ → ℕ → List ℕ → Call → List ℕ
side_after r o i side was (AddDirection o' i' m) = was
side_after r o i side was (AddProfile map) = was
side_after r o i side was (AddParty code access) = was
side_after r o i side was (OfferDirection time d h mw) = was
side_after r o i side was (OfferProfile time p h mw) = was
side_after r o i side was (Bid time p d session mw) = was
side_after r o i side was (Nominate time sender other r' side' mw) =
    if r' == r && out_party sender other side' == o && into_party sender other side' == i && side' == side then mw else was
side_after r o i side was (Match time d session) = was

-- each side has the five MW of its last granted nomination, `was` where there is none
unfoldable pub last_side : ℕ → ℕ → ℕ → ℕ → List ℕ → List Call → List ℕ
last_side r o i side was [] = was
last_side r o i side was (c ∷ cs) = last_side r o i side (side_after r o i side was c) cs

-- ---- matchings

unfoldable pub is_match_of : ℕ → ℕ → Call → Bool
is_match_of d s (AddDirection o i m) = false
is_match_of d s (AddProfile map) = false
is_match_of d s (AddParty code access) = false
is_match_of d s (OfferDirection time e h mw) = false
is_match_of d s (OfferProfile time p h mw) = false
is_match_of d s (Bid time p e session mw) = false
is_match_of d s (Nominate time sender other r side mw) = false
is_match_of d s (Match time e session) = e == d && session == s

-- a direction's session is matched where a matching of it was granted
unfoldable pub was_matched : ℕ → ℕ → List Call → Bool
was_matched d s [] = false
was_matched d s (c ∷ cs) = is_match_of d s c || was_matched d s cs

-- m: the lower of a pair's two sides, in hour k of the session
abbrev pub lower_mw : List Call → ℕ → ℕ → ℕ → ℕ → ℕ
lower_mw cs k r o i = min (get_or (last_side r o i 0 no_mw cs) k 0) (get_or (last_side r o i 1 no_mw cs) k 0)

-- of these pairs, those under right r
abbrev pub pairs_under : ℕ → List Key → List Key
pairs_under r ks = filter (λ x. x.right == r) ks

-- m of each pair of right r, in the order of the pairs
abbrev pub lower_values : List Call → ℕ → ℕ → List ℕ
lower_values cs k r = map (λ x. lower_mw cs k x.right x.out x.into) (pairs_under r (pairs_from [] cs))

-- T: their sum
abbrev pub lower_sum : List Call → ℕ → ℕ → ℕ
lower_sum cs k r = sum (lower_values cs k r)

-- the confirmed MW of a pair follow from those rights and sides by the rule above
abbrev pub confirmed_mw : List Right → List Call → ℕ → ℕ → ℕ → ℕ → ℕ
confirmed_mw rs cs r o i k = confirmed_of (get_or (right rs r).mw k 0) (lower_sum cs k r) (lower_mw cs k r o i)

-- what the read of them answers: 6 where right or pair is not there, 12 before the matching
abbrev pub confirmed_number : List Right → List Call → ℕ → ℕ → ℕ → ℕ
confirmed_number rs cs r o i =
    if nat_le (length rs) r || not (has_key r o i (pairs_from [] cs)) then 6 else if was_matched (right rs r).direction (right rs r).session cs then 0 else 12

unfoldable pub confirmed_by : List Right → List Call → ℕ → ℕ → ℕ → ConfirmedReply
confirmed_by rs cs r o i = confirmed_reply (confirmed_number rs cs r o i) (five (confirmed_mw rs cs r o i))
