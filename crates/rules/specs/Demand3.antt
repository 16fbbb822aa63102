-- Demand 3 as one claim about a list of calls on the book that an opening returned.
-- Left of each equation stands what the reads answer after the list, right of it what the day, the calls and their replies give.
-- Assumes nothing.
use Rattle.std.specs.Prelude.{ℕ, ◌+◌, ◌-◌, ◌≤◌, ◌<◌, ◌≡◌, if◌then◌else◌, ◌||◌, List, [], ◌∷◌, ◌++◌, map, sum, true, nat_le, nat_lt, length, get_or}
use Rattle.rules.specs.Basics.{no_mw}
use Rattle.rules.specs.Book.{Day, Direction, Right, Book, of_profile, right, direction_limit, pair_limit, party_limit, profile_limit, right_limit}
use Rattle.rules.specs.Calls.{Call, Bid, no_details}
use Rattle.rules.specs.Run.{run}
use Rattle.rules.specs.Opening.{opening, opened_day}
use Rattle.rules.specs.Days.{KnownDay}
use Rattle.rules.specs.Reads.{LeftReply, RightReply, read_direction, read_profile, read_right, read_confirmed}
use Rattle.rules.specs.History.{Key, granted_calls, grants, directions_of, profiles_of, last_offer, bid_mw, granted_mw, left_mw, shortfall_mw, rights_from, right_sum, has_key, pairs_from, pairs_under, last_side, was_matched, lower_mw, lower_values, lower_sum, confirmed_by}
use Rattle.rules.specs.Rounding.{RoundedDown, count_above_zero}

-- the read of direction or profile number x, one of `count`, in an hour of a day with n: what is left and the shortfall, or 6 and zeros where it or the
-- hour is not there
abbrev pub left_by : ℕ → ℕ → ℕ → ℕ → ℕ → ℕ → LeftReply
left_by count n x hour left shortfall =
    if nat_le count x || (nat_lt hour 1 || nat_lt n hour) then record { reply = no_details 6; left = 0; shortfall = 0 } else record { reply = no_details 0; left = left; shortfall = shortfall }

-- right number r of these, 6 and zeros where there is none
abbrev pub right_reply : List Right → ℕ → RightReply
right_reply rs r = record { reply = no_details (if nat_le (length rs) r then 6 else 0); right = right rs r }

-- what the read answers in hour k of the session: the confirmed MW of a pair
abbrev pub confirmed_in : Book → ℕ → ℕ → ℕ → ℕ → ℕ
confirmed_in b k r o i = get_or (read_confirmed b r o i).mw k 0

-- the confirmed MW in that hour of all of these pairs under right r, together
abbrev pub confirmed_total : Book → ℕ → ℕ → List Key → ℕ
confirmed_total b k r ks = sum (map (λ x. confirmed_in b k x.right x.out x.into) (pairs_under r ks))

-- a bid, by the granted calls before it: in each row and hour in which it takes MW, on its direction and on each profile that holds it, they give no
-- shortfall (02, S-2), and its MW are within what they leave
pub record BidFits (n : ℕ) (earlier : List Call) (bid : Call) : Type 0 where
  pub no_shortfall : (row hour : ℕ) → 0 < bid_mw n (directions_of earlier) (profiles_of earlier) row hour bid → shortfall_mw n earlier row hour ≡ 0
  pub within_left : (row hour : ℕ) → bid_mw n (directions_of earlier) (profiles_of earlier) row hour bid ≤ left_mw n earlier row hour

-- confirmed MW are pro rata in hour k, from 0, of the session of right r: the session is matched, and in that hour T is above R (02, S-4)
pub record ProRata (rs : List Right) (granted : List Call) (r k : ℕ) : Type 0 where
  pub hour : k < 5
  pub there : r < length rs
  pub matched : was_matched (right rs r).direction (right rs r).session granted ≡ true
  pub above : get_or (right rs r).mw k 0 < lower_sum granted k r

-- the limits of the tables
pub record WithinLimits (b : Book) : Type 0 where
  pub directions : length b.directions ≤ direction_limit
  pub profiles : length b.profiles ≤ profile_limit
  pub parties : length b.parties ≤ party_limit
  pub rights : length b.rights ≤ right_limit
  pub pairs : length b.pairs ≤ pair_limit

-- over the first book b and its day
module _ (b : Book) (day : Day) (cs : List Call) where
  -- the count of hours
  abbrev n : ℕ
  n = day.hours

  -- the calls that were granted
  abbrev pub granted : List Call
  granted = granted_calls cs (run b cs).replies

  abbrev pub directions : List Direction
  directions = directions_of granted

  abbrev pub profiles : List ℕ
  profiles = profiles_of granted

  abbrev pub rights : List Right
  rights = rights_from directions [] granted

  -- the last granted offer, and the MW of the granted bids
  abbrev pub offer_of : ℕ → ℕ → ℕ
  offer_of row hour = last_offer row hour 0 granted

  abbrev pub mw_of : ℕ → ℕ → ℕ
  mw_of row hour = granted_mw n granted row hour

  pub record Holds : Type 0 where
    -- the book keeps its day, with its date, and it is one that 01 knows
    pub the_day : (run b cs).book.day ≡ day
    pub known_day : KnownDay (run b cs).book.day
    -- left and shortfall: the differences between offer and granted MW, 0 where negative
    pub left_of_direction : (d hour : ℕ)
        → read_direction (run b cs).book d hour ≡ left_by (length directions) n d hour (left_mw n granted d hour) (shortfall_mw n granted d hour)
    pub left_of_profile : (p hour : ℕ)
        → read_profile (run b cs).book p hour ≡ left_by (length profiles) n p hour (left_mw n granted (of_profile p) hour) (shortfall_mw n granted (of_profile p) hour)
    -- hence, in each hour of the day, left + granted = offer + shortfall
    pub direction_adds_up : (d hour : ℕ) → d < length directions → 1 ≤ hour → hour ≤ n
        → (read_direction (run b cs).book d hour).left + mw_of d hour ≡ offer_of d hour + (read_direction (run b cs).book d hour).shortfall
    pub profile_adds_up : (p hour : ℕ) → p < length profiles → 1 ≤ hour → hour ≤ n
        → (read_profile (run b cs).book p hour).left + mw_of (of_profile p) hour ≡ offer_of (of_profile p) hour + (read_profile (run b cs).book p hour).shortfall
    -- each bid, at whatever place of the list it was granted, fits there; so granted MW are never above 9,999, the most that can be offered
    pub bids_fit : (earlier later : List Call) (time p d session : ℕ) (mw : List ℕ) → granted ≡ earlier ++ (Bid time p d session mw ∷ later)
        → BidFits n earlier (Bid time p d session mw)
    pub direction_within : (d hour : ℕ) → d < length directions → 1 ≤ hour → hour ≤ n → mw_of d hour ≤ 9999
    pub profile_within : (p hour : ℕ) → p < length profiles → 1 ≤ hour → hour ≤ n → mw_of (of_profile p) hour ≤ 9999
    -- the rights, and their sums; the MW on the right-hand side are plain sums
    pub the_rights : (r : ℕ) → read_right (run b cs).book r ≡ right_reply rights r
    pub the_sums : (d hour : ℕ) → d < length directions → right_sum n directions d hour rights ≡ mw_of d hour
    -- confirmed MW are those of the matching, under a right together at most the right, and of a pair at most either side
    pub the_confirmed : (r o i : ℕ) → read_confirmed (run b cs).book r o i ≡ confirmed_by rights granted r o i
    pub within_right : (r k : ℕ) → confirmed_total (run b cs).book k r (pairs_from [] granted) ≤ get_or (right rights r).mw k 0
    pub within_out : (r o i k : ℕ) → confirmed_in (run b cs).book k r o i ≤ get_or (last_side r o i 0 no_mw granted) k 0
    pub within_into : (r o i k : ℕ) → confirmed_in (run b cs).book k r o i ≤ get_or (last_side r o i 1 no_mw granted) k 0
    -- 02, S-4, where confirmed MW are pro rata: c × T ≤ m × R < (c + 1) × T for each pair; together they fall short of R by less than the number of pairs
    -- whose m is above 0
    pub rounded_down : (r o i k : ℕ) → ProRata rights granted r k → has_key r o i (pairs_from [] granted) ≡ true
        → RoundedDown (get_or (right rights r).mw k 0) (lower_sum granted k r) (lower_mw granted k r o i) (confirmed_in (run b cs).book k r o i)
    pub little_lost : (r k : ℕ) → ProRata rights granted r k
        → get_or (right rights r).mw k 0 - confirmed_total (run b cs).book k r (pairs_from [] granted) < count_above_zero (lower_values granted k r)
    -- without the refused calls: the same replies to the others, and the same book
    pub without_refused : run b granted ≡ record { replies = grants (run b cs).replies; book = (run b cs).book }
    pub limits : WithinLimits (run b cs).book

-- the book that the opening returned, granted or refused
abbrev pub Demand3 : ℕ → ℕ → ℕ → List Call → Type 0
Demand3 y m d cs = Holds (opening y m d).book (opened_day y m d) cs
