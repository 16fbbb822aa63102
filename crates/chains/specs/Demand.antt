-- Demand 3 for the program, as one claim about a chain of calls on the cells that an opening left.
-- Left of each equation stands what a read that is asked after the chain answers, right of it what the day, the calls and their answers give, never the book.
-- Assumes nothing.
use Rattle.std.specs.Prelude.{ℕ, ◌+◌, ◌-◌, ◌≤◌, ◌<◌, ◌≡◌, true, List, [], ◌∷◌, ◌++◌, map, sum, length, get_or, Result}
use Rattle.rules.specs.Basics.{no_mw}
use Rattle.rules.specs.Book.{Day, Direction, Right, of_profile, right}
use Rattle.rules.specs.Calls.{Call, Bid}
use Rattle.rules.specs.Said.{Answer, said}
use Rattle.rules.specs.Opening.{opened_day}
use Rattle.rules.specs.History.{Key, granted_calls, grants, directions_of, profiles_of, last_offer, granted_mw, left_mw, shortfall_mw, rights_from, right_sum, has_key, pairs_from, pairs_under, last_side, lower_mw, lower_values, lower_sum, confirmed_by}
use Rattle.rules.specs.Rounding.{RoundedDown, count_above_zero}
use Rattle.rules.specs.Days.{KnownDay}
use Rattle.rules.specs.Demand3.{left_by, right_reply, BidFits, ProRata}
use Rattle.rules.specs.declared.Refusal.{Refusal}
use Rattle.cells.specs.View.{book_of}
use Rattle.answers.specs.declared.LeftRead.{LeftRead}
use Rattle.answers.specs.declared.RightRead.{RightRead}
use Rattle.answers.specs.Promises.{Opens, ReadsDirection, ReadsProfile, ReadsRight, ReadsConfirmed, said_left, said_right, said_confirmed}
use Rattle.chains.specs.Chains.{Chain}

-- what these reads answer in hour k of the session, for all the pairs under right r together
abbrev pub confirmed_sum : (Key → Result (List ℕ) Refusal) → ℕ → ℕ → List Key → ℕ
confirmed_sum reads k r ks = sum (map (λ x. get_or (said_confirmed (reads x)).mw k 0) (pairs_under r ks))

-- over the opening's day, the cells that it left, the calls with their answers, and the cells that the last call left
module _ (day : Day) (first : List ℕ) (cs : List Call) (rs : List Answer) (last : List ℕ) where
  -- the count of hours
  abbrev n : ℕ
  n = day.hours

  -- the calls that were granted
  abbrev pub granted : List Call
  granted = granted_calls cs (map said rs)

  -- directions and profiles of granted set-up
  abbrev pub directions : List Direction
  directions = directions_of granted

  abbrev pub profiles : List ℕ
  profiles = profiles_of granted

  -- the rights that the granted bids make
  abbrev pub rights : List Right
  rights = rights_from directions [] granted

  -- the last granted offer, and the MW of the granted bids
  abbrev pub offer_of : ℕ → ℕ → ℕ
  offer_of row hour = last_offer row hour 0 granted

  abbrev pub mw_of : ℕ → ℕ → ℕ
  mw_of row hour = granted_mw n granted row hour

  pub record DayHolds : Type 0 where
    -- the book keeps its day, with its date, and it is one that 01 knows
    pub the_day : (book_of last).day ≡ day
    pub known_day : KnownDay (book_of last).day
    -- left and shortfall: the differences between offer and granted MW, 0 where negative
    pub left_of_direction : (d hour : ℕ) (x : Result LeftRead Refusal) → ReadsDirection last d hour x
        → said_left x ≡ left_by (length directions) n d hour (left_mw n granted d hour) (shortfall_mw n granted d hour)
    pub left_of_profile : (p hour : ℕ) (x : Result LeftRead Refusal) → ReadsProfile last p hour x
        → said_left x
        ≡ left_by (length profiles) n p hour (left_mw n granted (of_profile p) hour) (shortfall_mw n granted (of_profile p) hour)
    -- hence, in each hour of the day, left + granted = offer + shortfall
    pub direction_adds_up : (d hour : ℕ) (x : Result LeftRead Refusal) → ReadsDirection last d hour x → d < length directions → 1 ≤ hour → hour ≤ n
        → (said_left x).left + mw_of d hour ≡ offer_of d hour + (said_left x).shortfall
    pub profile_adds_up : (p hour : ℕ) (x : Result LeftRead Refusal) → ReadsProfile last p hour x → p < length profiles → 1 ≤ hour → hour ≤ n
        → (said_left x).left + mw_of (of_profile p) hour ≡ offer_of (of_profile p) hour + (said_left x).shortfall
    -- each bid, at whatever place of the chain it was granted, fits there; so granted MW are never above 9,999, the most that can be offered
    pub bids_fit : (earlier later : List Call) (time p d session : ℕ) (mw : List ℕ) → granted ≡ earlier ++ (Bid time p d session mw ∷ later)
        → BidFits n earlier (Bid time p d session mw)
    pub direction_within : (d hour : ℕ) → d < length directions → 1 ≤ hour → hour ≤ n → mw_of d hour ≤ 9999
    pub profile_within : (p hour : ℕ) → p < length profiles → 1 ≤ hour → hour ≤ n → mw_of (of_profile p) hour ≤ 9999
    -- the rights, and their sums
    pub the_rights : (r : ℕ) (x : Result RightRead Refusal) → ReadsRight last r x → said_right x ≡ right_reply rights r
    pub the_sums : (d hour : ℕ) → d < length directions → right_sum n directions d hour rights ≡ mw_of d hour
    -- confirmed MW are those of the matching, under a right together at most the right, and of a pair at most either side
    pub the_confirmed : (r o i : ℕ) (x : Result (List ℕ) Refusal) → ReadsConfirmed last r o i x → said_confirmed x ≡ confirmed_by rights granted r o i
    pub within_right : (r k : ℕ) (reads : Key → Result (List ℕ) Refusal) → ((x : Key) → ReadsConfirmed last x.right x.out x.into (reads x))
        → confirmed_sum reads k r (pairs_from [] granted) ≤ get_or (right rights r).mw k 0
    pub within_out : (r o i k : ℕ) (x : Result (List ℕ) Refusal) → ReadsConfirmed last r o i x → get_or (said_confirmed x).mw k 0 ≤ get_or (last_side r o i 0 no_mw granted) k 0
    pub within_into : (r o i k : ℕ) (x : Result (List ℕ) Refusal) → ReadsConfirmed last r o i x → get_or (said_confirmed x).mw k 0 ≤ get_or (last_side r o i 1 no_mw granted) k 0
    -- 02, S-4, where confirmed MW are pro rata: c × T ≤ m × R < (c + 1) × T for each pair; together they fall short of R by less than the number of pairs
    -- whose m is above 0
    pub rounded_down : (r o i k : ℕ) (x : Result (List ℕ) Refusal) → ReadsConfirmed last r o i x → ProRata rights granted r k
        → has_key r o i (pairs_from [] granted) ≡ true
        → RoundedDown (get_or (right rights r).mw k 0) (lower_sum granted k r) (lower_mw granted k r o i) (get_or (said_confirmed x).mw k 0)
    pub little_lost : (r k : ℕ) (reads : Key → Result (List ℕ) Refusal) → ((x : Key) → ReadsConfirmed last x.right x.out x.into (reads x))
        → ProRata rights granted r k
        → get_or (right rights r).mw k 0 - confirmed_sum reads k r (pairs_from [] granted) < count_above_zero (lower_values granted k r)
    -- the granted calls alone, on the same first cells: the same answers, and the same book
    pub without_refused : (rs' : List Answer) (last' : List ℕ) → Chain first granted rs' last'
        → (map said rs' ≡ grants (map said rs)) × (book_of last' ≡ book_of last)

-- for every opening, granted or refused, and every chain of calls on the cells that it left
abbrev pub ProgramDemand3 : Type 0
ProgramDemand3 = (y m d : ℕ) (r : Answer) (first last : List ℕ) (cs : List Call) (rs : List Answer)
    → Opens y m d r first → Chain first cs rs last → DayHolds (opened_day y m d) first cs rs last
