-- 01, Cases: those marked M, and those of 02, as one table of what the definitions compute and what the papers say. Yes is 1 and no is 0.
-- Assumes nothing.
use Rattle.std.specs.Prelude.{ℕ, ◌+◌, ◌-◌, ◌%◌, ◌≡◌, Bool, if◌then◌else◌, List, [], ◌∷◌, ◌++◌, map, get_or}
use Rattle.rules.specs.Basics.{no_mw}
use Rattle.rules.specs.Calendar.{days_in}
use Rattle.rules.specs.Sessions.{first_hour, hours_in}
use Rattle.rules.specs.Windows.{bids_close, bid_timing, nomination_timing, offer_timing, matching_timing}
use Rattle.rules.specs.Codes.{char_value, weighted_sum, is_code}
use Rattle.rules.specs.Book.{BookDate, NoDate, On, Book, right}
use Rattle.rules.specs.Bids.{Shortage, shortage}
use Rattle.rules.specs.Searches.{compared}
use Rattle.rules.specs.Details.{short_hour_of, short_capacity_of}
use Rattle.rules.specs.Calls.{Call, AddDirection, AddProfile, AddParty, OfferDirection, OfferProfile, Bid, Nominate, Match, Reply}
use Rattle.rules.specs.Run.{Step, Run, run}
use Rattle.rules.specs.Opening.{opening}
use Rattle.rules.specs.Reads.{LeftReply, read_direction, read_profile, read_confirmed}
use Rattle.rules.specs.Records.{record_of, reading, fields_of, call_of}
use Rattle.rules.specs.History.{granted_calls, directions_of, rights_from, pairs_from, lower_values, lower_sum}
use Rattle.rules.specs.Rounding.{count_above_zero, confirmed_list}
use Rattle.rules.specs.Demand3.{confirmed_total, ProRata}
use Rattle.rules.specs.declared.CallRecord.{CallRecord}
use Rattle.rules.specs.declared.Timing.{Timing}
use Rattle.rules.specs.declared.Timing.TheVariants.{Early, Within, Late}

pub record Case : Type 0 where
  pub computed : List ℕ
  pub said : List ℕ

-- each case computes what is said
abbrev pub AllAsSaid : List Case → Type 0
AllAsSaid [] = Unit {0}
AllAsSaid (c ∷ cs) = (c.computed ≡ c.said) × AllAsSaid cs

-- ---- how results are shown as numbers

abbrev yes_no : Bool → ℕ
yes_no b = if b then 1 else 0

-- number and details of each reply, one after the other
abbrev numbers_of : List Reply → List ℕ
numbers_of [] = []
numbers_of (r ∷ rs) = r.number ∷ r.first ∷ r.second ∷ numbers_of rs

-- number, left and shortfall of a read
abbrev left_numbers : LeftReply → List ℕ
left_numbers r = r.reply.number ∷ r.left ∷ r.shortfall ∷ []

-- year, month and day; nothing where there is no date
abbrev date_numbers : BookDate → List ℕ
date_numbers NoDate = []
date_numbers (On y m d) = y ∷ m ∷ d ∷ []

-- of an opening: the reply's number, and the weekday, the hours and the date of the book
abbrev opens_as : ℕ → ℕ → ℕ → List ℕ
opens_as y m d =
    let o : Step = opening y m d in
    o.reply.number ∷ o.book.day.weekday ∷ o.book.day.hours ∷ date_numbers o.book.day.date

abbrev twelve_months : List ℕ
twelve_months = 1 ∷ 2 ∷ 3 ∷ 4 ∷ 5 ∷ 6 ∷ 7 ∷ 8 ∷ 9 ∷ 10 ∷ 11 ∷ 12 ∷ []

-- first and last hour of a session of the four-hour model
abbrev hours_of_session : ℕ → ℕ → List ℕ
hours_of_session n session = first_hour n 4 session ∷ (first_hour n 4 session + hours_in n 4 session - 1) ∷ []

-- 0 within the window, or the number that refuses
abbrev refused_by : Timing → ℕ
refused_by Early = 16
refused_by Within = 0
refused_by Late = 8

-- for a bid at a minute in a session of the one-hour model, on a day of 24 hours with a weekday
abbrev bid_at : ℕ → ℕ → ℕ → ℕ
bid_at session minute weekday = refused_by (bid_timing 24 weekday 1 session minute)

-- the same for a window at each of some minutes
abbrev at_minutes : (ℕ → Timing) → List ℕ → List ℕ
at_minutes window minutes = map (λ (minute : ℕ). refused_by (window minute)) minutes

-- every weekday but Wednesday, and but Tuesday
abbrev no_wednesday : List ℕ
no_wednesday = 1 ∷ 2 ∷ 4 ∷ 5 ∷ 6 ∷ 7 ∷ []

abbrev no_tuesday : List ℕ
no_tuesday = 1 ∷ 3 ∷ 4 ∷ 5 ∷ 6 ∷ 7 ∷ []

-- the same on six days
abbrev six_times : ℕ → List ℕ
six_times x = x ∷ x ∷ x ∷ x ∷ x ∷ x ∷ []

-- on Monday 1 June 2015
unfoldable pub monday : List Call → Run
monday cs = run (opening 2015 6 1).book cs

-- on Sunday 25 October 2015, which has 25 hours
unfoldable pub sunday : List Call → Run
sunday cs = run (opening 2015 10 25).book cs

-- ---- party codes

-- 10XCZ-CEPS-GRIDE
abbrev ceps : List ℕ
ceps = 49 ∷ 48 ∷ 88 ∷ 67 ∷ 90 ∷ 45 ∷ 67 ∷ 69 ∷ 80 ∷ 83 ∷ 45 ∷ 71 ∷ 82 ∷ 73 ∷ 68 ∷ 69 ∷ []

-- 10YCZ-CEPS-----N
abbrev area : List ℕ
area = 49 ∷ 48 ∷ 89 ∷ 67 ∷ 90 ∷ 45 ∷ 67 ∷ 69 ∷ 80 ∷ 83 ∷ 45 ∷ 45 ∷ 45 ∷ 45 ∷ 45 ∷ 78 ∷ []

-- 11XUNI-CZ------ with the last character given
abbrev uni : ℕ → List ℕ
uni c = 49 ∷ 49 ∷ 88 ∷ 85 ∷ 78 ∷ 73 ∷ 45 ∷ 67 ∷ 90 ∷ 45 ∷ 45 ∷ 45 ∷ 45 ∷ 45 ∷ 45 ∷ c ∷ []

-- the value that the last character should have
abbrev due : List ℕ → ℕ
due code = 36 - (weighted_sum code - 1) % 37

-- ---- calls

-- one-hour MW
abbrev one : ℕ → List ℕ
one mw = mw ∷ 0 ∷ 0 ∷ 0 ∷ 0 ∷ []

-- these MW in the fifth hour of a session, 0 in the others
abbrev fifth : ℕ → List ℕ
fifth mw = 0 ∷ 0 ∷ 0 ∷ 0 ∷ mw ∷ []

-- bids of 10 MW in hour 1 a minute before the hold, and in hours 1 and 2 in its first minute, in its last and after it
abbrev wednesday_hold : List Call
wednesday_hold =
    AddDirection 0 4 1 ∷ AddParty ceps 1 ∷ OfferDirection 1000 0 1 100 ∷ OfferDirection 1000 0 2 100 ∷ Bid 1169 0 0 1 (one 10)
    ∷ Bid 1170 0 0 1 (one 10) ∷ Bid 1170 0 0 2 (one 10) ∷ Bid 1289 0 0 1 (one 10) ∷ Bid 1289 0 0 2 (one 10)
    ∷ Bid 1290 0 0 1 (one 10) ∷ Bid 1290 0 0 2 (one 10) ∷ []

-- bids at 1,079: one with nothing else against it, one that is short, one all zero, one by party 1, which has no access, one on a direction that isn't there
abbrev early_bids : List Call
early_bids =
    AddDirection 0 4 1 ∷ AddParty ceps 1 ∷ AddParty (uni 86) 2 ∷ OfferDirection 959 0 1 100 ∷ OfferDirection 960 0 1 100
    ∷ Bid 1079 0 0 1 (one 60) ∷ Bid 1079 0 0 1 (one 101) ∷ Bid 1079 0 0 1 (one 0) ∷ Bid 1079 1 0 1 (one 60) ∷ Bid 1079 0 1 1 (one 60) ∷ []

-- the first four sent again at 1,080, the granted one last
abbrev sent_again : List Call
sent_again =
    AddDirection 0 4 1 ∷ AddParty ceps 1 ∷ AddParty (uni 86) 2 ∷ OfferDirection 960 0 1 100
    ∷ Bid 1080 0 0 1 (one 101) ∷ Bid 1080 0 0 1 (one 0) ∷ Bid 1080 1 0 1 (one 60) ∷ Bid 1080 0 0 1 (one 60) ∷ []

-- the same at 1,290 after a bid at 1,289, an offer and, at 1,350, a nomination of a right that neither party holds; last a bid before the clock
abbrev late_calls : List Call
late_calls =
    AddDirection 0 4 1 ∷ AddParty ceps 1 ∷ AddParty (uni 86) 2 ∷ OfferDirection 960 0 1 100 ∷ Bid 1289 0 0 1 (one 60)
    ∷ Bid 1290 0 0 1 (one 10) ∷ Bid 1290 0 0 1 (one 101) ∷ Bid 1290 0 0 1 (one 0) ∷ Bid 1290 1 0 1 (one 60)
    ∷ OfferDirection 1290 0 1 10 ∷ Nominate 1350 1 1 0 0 (one 10) ∷ Bid 1079 0 0 1 (one 10) ∷ []

-- session 2 of the four-hour model, hours 5 to 8: offers and bids at their gates
abbrev four_hour_bids : List Call
four_hour_bids =
    AddDirection 0 4 4 ∷ AddParty ceps 1 ∷ OfferDirection 959 0 5 50 ∷ OfferDirection 960 0 5 50
    ∷ Bid 1319 0 0 2 (one 10) ∷ Bid 1320 0 0 2 (one 10) ∷ Bid 1529 0 0 2 (one 10) ∷ OfferDirection 1529 0 8 50
    ∷ Bid 1530 0 0 2 (one 10) ∷ OfferDirection 1530 0 8 50 ∷ []

-- the same session: nominations and matching at their gates
abbrev four_hour_matching : List Call
four_hour_matching =
    AddDirection 0 4 4 ∷ AddParty ceps 1 ∷ OfferDirection 960 0 5 50 ∷ Bid 1320 0 0 2 (one 20)
    ∷ Nominate 1589 0 0 0 0 (one 20) ∷ Nominate 1590 0 0 0 0 (one 20) ∷ Match 1634 0 2 ∷ Match 1635 0 2 ∷ []

-- hour 8 of a profile of four-hour directions, which is offered as a one-hour session is
abbrev profile_offers : List Call
profile_offers =
    AddDirection 0 4 4 ∷ AddDirection 0 1 4 ∷ AddProfile 3
    ∷ OfferProfile 959 0 8 50 ∷ OfferProfile 960 0 8 50 ∷ OfferProfile 1709 0 8 60 ∷ OfferProfile 1710 0 8 70 ∷ []

abbrev four_hours : List Call
four_hours =
    AddDirection 0 4 4 ∷ AddParty ceps 1
    ∷ OfferDirection 1000 0 1 150 ∷ OfferDirection 1000 0 2 150 ∷ OfferDirection 1000 0 3 200 ∷ OfferDirection 1000 0 4 200
    ∷ Bid 1100 0 0 1 (100 ∷ 150 ∷ 200 ∷ 200 ∷ 0 ∷ []) ∷ Bid 1100 0 0 1 (50 ∷ 0 ∷ 0 ∷ 10 ∷ 0 ∷ []) ∷ []

abbrev shared_profile : List Call
shared_profile =
    AddDirection 0 4 1 ∷ AddDirection 0 1 1 ∷ AddProfile 3 ∷ AddParty ceps 1
    ∷ OfferDirection 1000 0 1 100 ∷ OfferDirection 1000 1 1 100 ∷ OfferProfile 1000 0 1 120
    ∷ Bid 1100 0 0 1 (one 80) ∷ Bid 1100 0 1 1 (one 50) ∷ Bid 1100 0 1 1 (one 40) ∷ []

-- 80 MW are granted in hour 1, and then the offer of 100 is cut to 79, which 01 refused with 14; a bid for 1 MW
abbrev cut_offer : List Call
cut_offer =
    AddDirection 0 4 1 ∷ AddParty ceps 1 ∷ OfferDirection 1000 0 1 100 ∷ Bid 1100 0 0 1 (one 80)
    ∷ OfferDirection 1100 0 1 79 ∷ Bid 1100 0 0 1 (one 1) ∷ []

-- and cut to 0
abbrev cut_to_zero : List Call
cut_to_zero = cut_offer ++ (OfferDirection 1100 0 1 0 ∷ [])

-- and raised again, to 90: of the 10 MW left a bid for 11 is short, and one for 10 is not
abbrev raised_again : List Call
raised_again = cut_to_zero ++ (OfferDirection 1100 0 1 90 ∷ Bid 1100 0 0 1 (one 11) ∷ Bid 1100 0 0 1 (one 10) ∷ [])

-- directions 0 and 1 are offered 100 each and their profile 120, and 80 and 30 MW are granted: 110 of the profile
abbrev shared_cut : List Call
shared_cut =
    AddDirection 0 4 1 ∷ AddDirection 0 1 1 ∷ AddProfile 3 ∷ AddParty ceps 1
    ∷ OfferDirection 1000 0 1 100 ∷ OfferDirection 1000 1 1 100 ∷ OfferProfile 1000 0 1 120
    ∷ Bid 1100 0 0 1 (one 80) ∷ Bid 1100 0 1 1 (one 30) ∷ []

-- the profile is cut, or direction 0; then a bid for 1 MW on each direction
abbrev profile_cut : List Call
profile_cut = shared_cut ++ (OfferProfile 1100 0 1 50 ∷ Bid 1100 0 0 1 (one 1) ∷ Bid 1100 0 1 1 (one 1) ∷ [])

abbrev direction_cut : List Call
direction_cut = shared_cut ++ (OfferDirection 1100 0 1 20 ∷ Bid 1100 0 0 1 (one 1) ∷ Bid 1100 0 1 1 (one 1) ∷ [])

-- what the reads of directions 0 and 1 and of their profile answer in hour 1
abbrev reads_of_hour1 : List Call → List ℕ
reads_of_hour1 cs =
    left_numbers (read_direction (monday cs).book 0 1) ++ left_numbers (read_direction (monday cs).book 1 1) ++ left_numbers (read_profile (monday cs).book 0 1)

-- session 1 of the four-hour model: hour 2 is cut under what is granted; then bids for hours 1 and 3, and for 1 MW in hour 2 too
abbrev hour_cut : List Call
hour_cut =
    AddDirection 0 4 4 ∷ AddParty ceps 1 ∷ OfferDirection 1000 0 1 100 ∷ OfferDirection 1000 0 2 100 ∷ OfferDirection 1000 0 3 100
    ∷ Bid 1100 0 0 1 (50 ∷ 60 ∷ 50 ∷ 0 ∷ 0 ∷ []) ∷ OfferDirection 1100 0 2 40
    ∷ Bid 1100 0 0 1 (10 ∷ 0 ∷ 10 ∷ 0 ∷ 0 ∷ []) ∷ Bid 1100 0 0 1 (10 ∷ 1 ∷ 10 ∷ 0 ∷ 0 ∷ []) ∷ []

-- session 1 of the four-hour model on direction 0, which profiles 0 and 2 hold and profile 1 doesn't: in hours 1 and 3 there are 100 MW of the direction, 60
-- of profile 0 and 20 of profile 2
abbrev three_profiles : List Call
three_profiles =
    AddDirection 0 4 4 ∷ AddDirection 0 1 4 ∷ AddDirection 0 2 4 ∷ AddProfile 3 ∷ AddProfile 6 ∷ AddProfile 5
    ∷ OfferDirection 1000 0 1 100 ∷ OfferDirection 1000 0 3 100 ∷ OfferProfile 1000 0 1 60 ∷ OfferProfile 1000 0 3 60
    ∷ OfferProfile 1000 2 1 20 ∷ OfferProfile 1000 2 3 20 ∷ []

-- direction 0 and eight profiles that hold it, of which all but the last are offered 50 MW in hour 5
abbrev eight_profiles : List Call
eight_profiles =
    AddDirection 0 4 4 ∷ AddDirection 0 1 4 ∷ AddProfile 3 ∷ AddProfile 3 ∷ AddProfile 3 ∷ AddProfile 3 ∷ AddProfile 3 ∷ AddProfile 3 ∷ AddProfile 3 ∷ AddProfile 3
    ∷ OfferDirection 1000 0 5 50 ∷ OfferProfile 1000 0 5 50 ∷ OfferProfile 1000 1 5 50 ∷ OfferProfile 1000 2 5 50 ∷ OfferProfile 1000 3 5 50
    ∷ OfferProfile 1000 4 5 50 ∷ OfferProfile 1000 5 5 50 ∷ OfferProfile 1000 6 5 50 ∷ []

-- of searches on direction 0 from hour 1 on, each for five MW: the hour and the capacity that are short, zeros where nothing is, and how many values of left
-- were compared
abbrev searches : Book → List (List ℕ) → List ℕ
searches b [] = []
searches b (mw ∷ mws) =
    let s : Shortage = shortage b 0 1 mw in
    short_hour_of s ∷ short_capacity_of s ∷ compared b 0 1 mw ∷ searches b mws

-- party 0 nominates a right of 100 with itself (95 out, 90 in) and with party 1 (60 out, 70 in): m 90 and 60
abbrev two_pairs : List Call
two_pairs =
    AddDirection 0 4 1 ∷ AddParty ceps 17 ∷ AddParty (uni 86) 16
    ∷ OfferDirection 1000 0 1 100 ∷ Bid 1100 0 0 1 (one 100)
    ∷ Nominate 1110 0 0 0 0 (one 95) ∷ Nominate 1110 0 0 0 1 (one 90)
    ∷ Nominate 1110 0 1 0 0 (one 60) ∷ Nominate 1110 1 0 0 1 (one 70)
    ∷ Match 1394 0 1 ∷ Match 1395 0 1 ∷ []

-- both sides of a pair under a right, with the same MW
abbrev both_sides : ℕ → ℕ → ℕ → List ℕ → List Call
both_sides r out into mw = Nominate 1110 out into r 0 mw ∷ Nominate 1110 into out r 1 mw ∷ []

-- right 0 with 100 MW in hour 1, held by party 0; its nominations; and the matching
abbrev right_of_100 : List Call → List Call
right_of_100 cs =
    AddDirection 0 4 1 ∷ AddParty ceps 17 ∷ AddParty (uni 86) 17 ∷ OfferDirection 1000 0 1 100 ∷ Bid 1100 0 0 1 (one 100) ∷ (cs ++ (Match 1395 0 1 ∷ []))

-- three pairs of 50 on both sides: with itself, with party 1, and of party 1 with party 0
abbrev three_pairs : List Call
three_pairs = right_of_100 (both_sides 0 0 0 (one 50) ++ both_sides 0 0 1 (one 50) ++ both_sides 0 1 0 (one 50))

-- one pair of 130
abbrev one_pair : List Call
one_pair = right_of_100 (both_sides 0 0 0 (one 130))

-- m 70 and 80, and a pair whose in party sent nothing
abbrev one_side_sent : List Call
one_side_sent = right_of_100 (both_sides 0 0 0 (one 70) ++ both_sides 0 0 1 (one 80) ++ (Nominate 1110 1 0 0 0 (one 40) ∷ []))

-- session 1 of the four-hour model in its fifth hour: right 0 with a pair of 9, and right 1 with 98 MW and three pairs of 50
abbrev two_rights : List Call
two_rights =
    AddDirection 0 4 4 ∷ AddParty ceps 17 ∷ AddParty (uni 86) 17 ∷ OfferDirection 1000 0 5 118 ∷ Bid 1100 0 0 1 (fifth 20) ∷ Bid 1100 1 0 1 (fifth 98)
    ∷ (both_sides 0 0 0 (fifth 9) ++ both_sides 1 1 1 (fifth 50) ++ both_sides 1 1 0 (fifth 50) ++ both_sides 1 0 1 (fifth 50) ++ (Match 1395 0 1 ∷ []))

-- of a right in hour k of its session, from 0, after calls on that Sunday: its MW, T, its confirmed MW together, what they fall short of it, and how many of
-- its pairs have an m above 0
abbrev lost_numbers : List Call → ℕ → ℕ → List ℕ
lost_numbers cs r k =
    let gs : List Call = granted_calls cs (sunday cs).replies in
    let R : ℕ = get_or (right (rights_from (directions_of gs) [] gs) r).mw k 0 in
    let c : ℕ = confirmed_total (sunday cs).book k r (pairs_from [] gs) in
    R ∷ lower_sum gs k r ∷ c ∷ (R - c) ∷ count_above_zero (lower_values gs k r) ∷ []

-- 02, S-4 is claimed of such a right and hour: its confirmed MW are pro rata
abbrev IsProRata : List Call → ℕ → ℕ → Type 0
IsProRata cs r k =
    let gs : List Call = granted_calls cs (sunday cs).replies in
    ProRata (rights_from (directions_of gs) [] gs) gs r k

abbrev pub ProRataCases : Type 0
ProRataCases = IsProRata two_pairs 0 0 × IsProRata three_pairs 0 0 × IsProRata one_pair 0 0 × IsProRata one_side_sent 0 0 × IsProRata two_rights 1 4

-- time 1,100, party 2, direction 0, session 1, 50 MW
unfoldable pub bid_record : CallRecord
bid_record = call_of (3 ∷ 1100 ∷ 2 ∷ 0 ∷ 0 ∷ 0 ∷ 1 ∷ 0 ∷ 0 ∷ 50 ∷ 0 ∷ 0 ∷ 0 ∷ 0 ∷ 0 ∷ [])

abbrev bid_bytes : List ℕ
bid_bytes = 0x57 ∷ 0x02 ∷ 0x03 ∷ 0x4C ∷ 0x04 ∷ 0x02 ∷ 0x00 ∷ 0x01 ∷ 0x32 ∷ 0x00 ∷ []

-- ---- the table

unfoldable pub cases : List Case
cases =
    -- 02, S-3: 29 March 2015 is a Sunday with 23 hours, and 25 October one with 25; the days beside them have 24
    record {
      computed = opens_as 2015 3 28 ++ opens_as 2015 3 29 ++ opens_as 2015 3 30;
      said = 0 ∷ 6 ∷ 24 ∷ 2015 ∷ 3 ∷ 28 ∷ 0 ∷ 7 ∷ 23 ∷ 2015 ∷ 3 ∷ 29 ∷ 0 ∷ 1 ∷ 24 ∷ 2015 ∷ 3 ∷ 30 ∷ [];
    }
    ∷ record {
      computed = opens_as 2015 10 24 ++ opens_as 2015 10 25 ++ opens_as 2015 10 26;
      said = 0 ∷ 6 ∷ 24 ∷ 2015 ∷ 10 ∷ 24 ∷ 0 ∷ 7 ∷ 25 ∷ 2015 ∷ 10 ∷ 25 ∷ 0 ∷ 1 ∷ 24 ∷ 2015 ∷ 10 ∷ 26 ∷ [];
    }
    -- 1 June 2015 is a Monday, and 4 June a Thursday with 24 hours
    ∷ record { computed = opens_as 2015 6 1 ++ opens_as 2015 6 4; said = 0 ∷ 1 ∷ 24 ∷ 2015 ∷ 6 ∷ 1 ∷ 0 ∷ 4 ∷ 24 ∷ 2015 ∷ 6 ∷ 4 ∷ [] }
    -- 29 February 2000 is there, and 29 February 2100 isn't: 17, and 01's Monday of 24 hours, which has no date
    ∷ record { computed = opens_as 2000 2 29 ++ opens_as 2100 2 29; said = 0 ∷ 2 ∷ 24 ∷ 2000 ∷ 2 ∷ 29 ∷ 17 ∷ 1 ∷ 24 ∷ [] }
    -- the cycle begins on a Saturday and ends with 31 December 2399, a Friday
    ∷ record { computed = opens_as 1999 12 31 ++ opens_as 2000 1 1; said = 17 ∷ 1 ∷ 24 ∷ 0 ∷ 6 ∷ 24 ∷ 2000 ∷ 1 ∷ 1 ∷ [] }
    ∷ record { computed = opens_as 2399 12 31 ++ opens_as 2400 1 1; said = 0 ∷ 5 ∷ 24 ∷ 2399 ∷ 12 ∷ 31 ∷ 17 ∷ 1 ∷ 24 ∷ [] }
    -- the last days of the months of 2015, and of February in 2016, 2100 and 2000
    ∷ record {
      computed = map (days_in 2015) twelve_months ++ map (λ (y : ℕ). days_in y 2) (2016 ∷ 2100 ∷ 2000 ∷ []);
      said = 31 ∷ 28 ∷ 31 ∷ 30 ∷ 31 ∷ 30 ∷ 31 ∷ 31 ∷ 30 ∷ 31 ∷ 30 ∷ 31 ∷ 29 ∷ 28 ∷ 29 ∷ [];
    }
    -- no month 0 or 13, no day 0 or 32, no 31 April
    ∷ record { computed = opens_as 2015 0 1 ++ opens_as 2015 13 1; said = 17 ∷ 1 ∷ 24 ∷ 17 ∷ 1 ∷ 24 ∷ [] }
    ∷ record { computed = opens_as 2015 1 0 ++ opens_as 2015 1 32 ++ opens_as 2015 4 31; said = 17 ∷ 1 ∷ 24 ∷ 17 ∷ 1 ∷ 24 ∷ 17 ∷ 1 ∷ 24 ∷ [] }
    -- 10XCZ-CEPS-GRIDE is a party code
    ∷ record { computed = yes_no (is_code ceps) ∷ []; said = 1 ∷ [] }
    -- 10YCZ-CEPS-----N checks (N is 23) but has no X
    ∷ record { computed = yes_no (is_code area) ∷ due area ∷ char_value (get_or area 15 0) ∷ []; said = 0 ∷ 23 ∷ 23 ∷ [] }
    -- 11XUNI-CZ------5 fails: V (31) would be due
    ∷ record { computed = yes_no (is_code (uni 53)) ∷ due (uni 53) ∷ char_value 86 ∷ yes_no (is_code (uni 86)) ∷ []; said = 0 ∷ 31 ∷ 31 ∷ 1 ∷ [] }
    -- N = 25: session 1 is hours 1-5, 2 is 6-9
    ∷ record { computed = hours_of_session 25 1 ++ hours_of_session 25 2; said = 1 ∷ 5 ∷ 6 ∷ 9 ∷ [] }
    -- N = 23: session 6 is 20-23
    ∷ record { computed = hours_of_session 23 6; said = 20 ∷ 23 ∷ [] }
    -- one-hour model, no Wednesday: for hour 1 a bid at 1,080 and 1,289 is in, at 1,079 too early and at 1,290 too late
    ∷ record { computed = map (bid_at 1 1080) no_wednesday ++ map (bid_at 1 1289) no_wednesday; said = six_times 0 ++ six_times 0 }
    ∷ record { computed = map (bid_at 1 1079) no_wednesday ++ map (bid_at 1 1290) no_wednesday; said = six_times 16 ++ six_times 8 }
    -- same model: hour 24 closes for bids at 2,670, on Tuesday at 2,490
    ∷ record { computed = map (λ (w : ℕ). bids_close w 1 24) no_tuesday ++ (bids_close 2 1 24 ∷ []); said = six_times 2670 ++ (2490 ∷ []) }
    ∷ record { computed = map (bid_at 24 2669) no_tuesday ++ (bid_at 24 2489 2 ∷ []); said = six_times 0 ++ (0 ∷ []) }
    ∷ record { computed = map (bid_at 24 2670) no_tuesday ++ (bid_at 24 2490 2 ∷ []); said = six_times 8 ++ (8 ∷ []) }
    -- 02, S-1, up to the records: nominations, offers and matching of hour 1 on a Monday
    ∷ record { computed = at_minutes (nomination_timing 24 1 1 1) (1079 ∷ 1080 ∷ 1349 ∷ 1350 ∷ []); said = 16 ∷ 0 ∷ 0 ∷ 8 ∷ [] }
    ∷ record { computed = at_minutes (offer_timing 24 1 1 1) (959 ∷ 960 ∷ 1289 ∷ 1290 ∷ []); said = 16 ∷ 0 ∷ 0 ∷ 8 ∷ [] }
    ∷ record { computed = at_minutes (matching_timing 24 1 1 1) (1394 ∷ 1395 ∷ 2999 ∷ []); said = 16 ∷ 0 ∷ 0 ∷ [] }
    -- a Tuesday: sessions 22 and 23 for bids, 24 for nominations, offers and matching
    ∷ record { computed = at_minutes (bid_timing 24 2 1 22) (2489 ∷ 2490 ∷ []) ++ at_minutes (bid_timing 24 2 1 23) (2489 ∷ 2490 ∷ []); said = 0 ∷ 8 ∷ 0 ∷ 8 ∷ [] }
    ∷ record { computed = at_minutes (nomination_timing 24 2 1 24) (2549 ∷ 2550 ∷ []) ++ at_minutes (offer_timing 24 2 1 24) (2489 ∷ 2490 ∷ []); said = 0 ∷ 8 ∷ 0 ∷ 8 ∷ [] }
    ∷ record { computed = at_minutes (matching_timing 24 2 1 24) (2594 ∷ 2595 ∷ []); said = 16 ∷ 0 ∷ [] }
    -- a Wednesday: the hold is of four-hour sessions too, and of bids only
    ∷ record { computed = at_minutes (bid_timing 24 3 4 1) (1169 ∷ 1170 ∷ 1289 ∷ 1290 ∷ []); said = 0 ∷ 16 ∷ 16 ∷ 8 ∷ [] }
    ∷ record { computed = at_minutes (nomination_timing 24 3 1 1) (1170 ∷ 1289 ∷ []) ++ at_minutes (offer_timing 24 3 1 1) (1170 ∷ 1289 ∷ []); said = 0 ∷ 0 ∷ 0 ∷ 0 ∷ [] }
    -- days of 25 and 23 hours: session 2 of the four-hour model begins with hour 6, and with hour 4
    ∷ record { computed = at_minutes (bid_timing 25 7 4 2) (1379 ∷ 1380 ∷ 1589 ∷ 1590 ∷ []) ++ at_minutes (bid_timing 23 7 4 2) (1259 ∷ 1260 ∷ 1469 ∷ 1470 ∷ []); said = 16 ∷ 0 ∷ 0 ∷ 8 ∷ 16 ∷ 0 ∷ 0 ∷ 8 ∷ [] }
    ∷ record { computed = at_minutes (nomination_timing 25 7 4 2) (1379 ∷ 1380 ∷ 1649 ∷ 1650 ∷ []) ++ at_minutes (nomination_timing 23 7 4 2) (1259 ∷ 1260 ∷ 1529 ∷ 1530 ∷ []); said = 16 ∷ 0 ∷ 0 ∷ 8 ∷ 16 ∷ 0 ∷ 0 ∷ 8 ∷ [] }
    ∷ record { computed = at_minutes (offer_timing 25 7 4 5) (959 ∷ 960 ∷ 1289 ∷ 1290 ∷ []) ++ at_minutes (offer_timing 23 7 4 4) (959 ∷ 960 ∷ 1469 ∷ 1470 ∷ []); said = 16 ∷ 0 ∷ 0 ∷ 8 ∷ 16 ∷ 0 ∷ 0 ∷ 8 ∷ [] }
    ∷ record { computed = at_minutes (matching_timing 25 7 4 2) (1694 ∷ 1695 ∷ []) ++ at_minutes (matching_timing 23 7 4 2) (1574 ∷ 1575 ∷ []); said = 16 ∷ 0 ∷ 16 ∷ 0 ∷ [] }
    -- calls: a bid in the Wednesday hold is too early, for hour 1 and for a later one; at its end hour 1 is too late
    ∷ record {
      computed = numbers_of (run (opening 2015 6 3).book wednesday_hold).replies;
      said = 0 ∷ 0 ∷ 0 ∷ 0 ∷ 0 ∷ 0 ∷ 0 ∷ 100 ∷ 0 ∷ 0 ∷ 100 ∷ 0 ∷ 0 ∷ 0 ∷ 0 ∷ 16 ∷ 0 ∷ 0 ∷ 16 ∷ 0 ∷ 0 ∷ 16 ∷ 0 ∷ 0 ∷ 16 ∷ 0 ∷ 0 ∷ 8 ∷ 0 ∷ 0 ∷ 0 ∷ 1 ∷ 0 ∷ [];
    }
    -- an offer at 959 is too early; so is a bid at 1,079, also where it is short, all zero or without access, but 6 comes before 16
    ∷ record {
      computed = numbers_of (monday early_bids).replies;
      said =
          0 ∷ 0 ∷ 0 ∷ 0 ∷ 0 ∷ 0 ∷ 0 ∷ 1 ∷ 0 ∷ 16 ∷ 0 ∷ 0 ∷ 0 ∷ 100 ∷ 0
          ∷ 16 ∷ 0 ∷ 0 ∷ 16 ∷ 0 ∷ 0 ∷ 16 ∷ 0 ∷ 0 ∷ 16 ∷ 0 ∷ 0 ∷ 6 ∷ 0 ∷ 0 ∷ [];
    }
    -- sent again at 1,080 they are short, all zero, without access, and granted
    ∷ record {
      computed = numbers_of (monday sent_again).replies;
      said = 0 ∷ 0 ∷ 0 ∷ 0 ∷ 0 ∷ 0 ∷ 0 ∷ 1 ∷ 0 ∷ 0 ∷ 100 ∷ 0 ∷ 15 ∷ 1 ∷ 0 ∷ 9 ∷ 0 ∷ 0 ∷ 10 ∷ 0 ∷ 0 ∷ 0 ∷ 0 ∷ 0 ∷ [];
    }
    -- a bid at 1,290 is too late, also where it is short, all zero or without access; so are an offer at its close, and a nomination, also where 11 would
    -- apply; 5 comes before 16
    ∷ record {
      computed = numbers_of (monday late_calls).replies;
      said =
          0 ∷ 0 ∷ 0 ∷ 0 ∷ 0 ∷ 0 ∷ 0 ∷ 1 ∷ 0 ∷ 0 ∷ 100 ∷ 0 ∷ 0 ∷ 0 ∷ 0
          ∷ 8 ∷ 0 ∷ 0 ∷ 8 ∷ 0 ∷ 0 ∷ 8 ∷ 0 ∷ 0 ∷ 8 ∷ 0 ∷ 0 ∷ 8 ∷ 0 ∷ 0 ∷ 8 ∷ 0 ∷ 0 ∷ 5 ∷ 0 ∷ 0 ∷ [];
    }
    -- each window of a four-hour session: the minute before it opens, its first and last, and that at which it closes
    ∷ record {
      computed = numbers_of (monday four_hour_bids).replies;
      said =
          0 ∷ 0 ∷ 0 ∷ 0 ∷ 0 ∷ 0 ∷ 16 ∷ 0 ∷ 0 ∷ 0 ∷ 50 ∷ 0
          ∷ 16 ∷ 0 ∷ 0 ∷ 0 ∷ 0 ∷ 0 ∷ 0 ∷ 0 ∷ 0 ∷ 0 ∷ 50 ∷ 0 ∷ 8 ∷ 0 ∷ 0 ∷ 8 ∷ 0 ∷ 0 ∷ [];
    }
    ∷ record {
      computed = numbers_of (monday four_hour_matching).replies;
      said = 0 ∷ 0 ∷ 0 ∷ 0 ∷ 0 ∷ 0 ∷ 0 ∷ 50 ∷ 0 ∷ 0 ∷ 0 ∷ 0 ∷ 0 ∷ 0 ∷ 0 ∷ 8 ∷ 0 ∷ 0 ∷ 16 ∷ 0 ∷ 0 ∷ 0 ∷ 1 ∷ 0 ∷ [];
    }
    -- an hour of a profile, as a one-hour session
    ∷ record {
      computed = numbers_of (monday profile_offers).replies;
      said = 0 ∷ 0 ∷ 0 ∷ 0 ∷ 1 ∷ 0 ∷ 0 ∷ 0 ∷ 0 ∷ 16 ∷ 0 ∷ 0 ∷ 0 ∷ 50 ∷ 0 ∷ 0 ∷ 60 ∷ 0 ∷ 8 ∷ 0 ∷ 0 ∷ [];
    }
    -- the record of a bid, and the call read from it
    ∷ record { computed = record_of bid_record; said = bid_bytes }
    ∷ record { computed = (reading bid_bytes).reply.number ∷ (reading bid_bytes).length ∷ fields_of (reading bid_bytes).call; said = 0 ∷ 10 ∷ fields_of bid_record }
    -- four hours offered 150, 150, 200, 200: granted, then short in the fourth, and the first still has 50
    ∷ record {
      computed = numbers_of (monday four_hours).replies;
      said = 0 ∷ 0 ∷ 0 ∷ 0 ∷ 0 ∷ 0 ∷ 0 ∷ 150 ∷ 0 ∷ 0 ∷ 150 ∷ 0 ∷ 0 ∷ 200 ∷ 0 ∷ 0 ∷ 200 ∷ 0 ∷ 0 ∷ 0 ∷ 0 ∷ 15 ∷ 4 ∷ 0 ∷ [];
    }
    ∷ record { computed = (read_direction (monday four_hours).book 0 1).left ∷ []; said = 50 ∷ [] }
    -- two directions of 100, profile 120: 80 granted, 50 on the other short by the profile, 40 granted
    ∷ record {
      computed = numbers_of (monday shared_profile).replies;
      said = 0 ∷ 0 ∷ 0 ∷ 0 ∷ 1 ∷ 0 ∷ 0 ∷ 0 ∷ 0 ∷ 0 ∷ 0 ∷ 0 ∷ 0 ∷ 100 ∷ 0 ∷ 0 ∷ 100 ∷ 0 ∷ 0 ∷ 120 ∷ 0 ∷ 0 ∷ 0 ∷ 0 ∷ 15 ∷ 1 ∷ 1 ∷ 0 ∷ 1 ∷ 0 ∷ [];
    }
    -- 02, S-2: an offer cut to 79 under 80 granted is granted with nothing left, 1 MW is short, and the shortfall is 1; cut to 0 it is 80
    ∷ record {
      computed = numbers_of (monday cut_offer).replies;
      said = 0 ∷ 0 ∷ 0 ∷ 0 ∷ 0 ∷ 0 ∷ 0 ∷ 100 ∷ 0 ∷ 0 ∷ 0 ∷ 0 ∷ 0 ∷ 0 ∷ 0 ∷ 15 ∷ 1 ∷ 0 ∷ [];
    }
    ∷ record {
      computed = left_numbers (read_direction (monday cut_offer).book 0 1) ++ left_numbers (read_direction (monday cut_to_zero).book 0 1);
      said = 0 ∷ 0 ∷ 1 ∷ 0 ∷ 0 ∷ 80 ∷ [];
    }
    -- raised to 90: 10 MW are left, and after the bid for 10 nothing, with no shortfall
    ∷ record {
      computed = numbers_of (monday raised_again).replies;
      said =
          0 ∷ 0 ∷ 0 ∷ 0 ∷ 0 ∷ 0 ∷ 0 ∷ 100 ∷ 0 ∷ 0 ∷ 0 ∷ 0 ∷ 0 ∷ 0 ∷ 0 ∷ 15 ∷ 1 ∷ 0
          ∷ 0 ∷ 0 ∷ 0 ∷ 0 ∷ 10 ∷ 0 ∷ 15 ∷ 1 ∷ 0 ∷ 0 ∷ 1 ∷ 0 ∷ [];
    }
    ∷ record { computed = left_numbers (read_direction (monday raised_again).book 0 1); said = 0 ∷ 0 ∷ 0 ∷ [] }
    -- the profile is cut to 50 under 110 and its directions are not: a shortfall of 60 for the profile alone, and both directions are short by it
    ∷ record {
      computed = numbers_of (monday profile_cut).replies;
      said =
          0 ∷ 0 ∷ 0 ∷ 0 ∷ 1 ∷ 0 ∷ 0 ∷ 0 ∷ 0 ∷ 0 ∷ 0 ∷ 0 ∷ 0 ∷ 100 ∷ 0 ∷ 0 ∷ 100 ∷ 0 ∷ 0 ∷ 120 ∷ 0 ∷ 0 ∷ 0 ∷ 0 ∷ 0 ∷ 1 ∷ 0
          ∷ 0 ∷ 0 ∷ 0 ∷ 15 ∷ 1 ∷ 1 ∷ 15 ∷ 1 ∷ 1 ∷ [];
    }
    ∷ record { computed = reads_of_hour1 profile_cut; said = 0 ∷ 20 ∷ 0 ∷ 0 ∷ 70 ∷ 0 ∷ 0 ∷ 0 ∷ 60 ∷ [] }
    -- direction 0 is cut to 20 under 80 and the profile is not: a shortfall of 60 for that direction alone, and the other is still granted
    ∷ record {
      computed = numbers_of (monday direction_cut).replies;
      said =
          0 ∷ 0 ∷ 0 ∷ 0 ∷ 1 ∷ 0 ∷ 0 ∷ 0 ∷ 0 ∷ 0 ∷ 0 ∷ 0 ∷ 0 ∷ 100 ∷ 0 ∷ 0 ∷ 100 ∷ 0 ∷ 0 ∷ 120 ∷ 0 ∷ 0 ∷ 0 ∷ 0 ∷ 0 ∷ 1 ∷ 0
          ∷ 0 ∷ 0 ∷ 0 ∷ 15 ∷ 1 ∷ 0 ∷ 0 ∷ 2 ∷ 0 ∷ [];
    }
    ∷ record { computed = reads_of_hour1 direction_cut; said = 0 ∷ 0 ∷ 60 ∷ 0 ∷ 69 ∷ 0 ∷ 0 ∷ 9 ∷ 0 ∷ [] }
    -- with a shortfall of 20 in hour 2 a bid with MW 0 there is granted for its other hours, and one with 1 MW there is short in hour 2
    ∷ record {
      computed = numbers_of (monday hour_cut).replies;
      said =
          0 ∷ 0 ∷ 0 ∷ 0 ∷ 0 ∷ 0 ∷ 0 ∷ 100 ∷ 0 ∷ 0 ∷ 100 ∷ 0 ∷ 0 ∷ 100 ∷ 0 ∷ 0 ∷ 0 ∷ 0
          ∷ 0 ∷ 0 ∷ 0 ∷ 0 ∷ 0 ∷ 0 ∷ 15 ∷ 2 ∷ 0 ∷ [];
    }
    ∷ record {
      computed = left_numbers (read_direction (monday hour_cut).book 0 1) ++ left_numbers (read_direction (monday hour_cut).book 0 2);
      said = 0 ∷ 40 ∷ 0 ∷ 0 ∷ 0 ∷ 20 ∷ [];
    }
    -- 02, S-5: MW 10, 0, 5, 0 compare three hours of three values each, all zero none, hour 1 alone three; hour 4 alone nine and that of the direction, which is short
    ∷ record {
      computed = searches (monday three_profiles).book ((10 ∷ 0 ∷ 5 ∷ 0 ∷ 0 ∷ []) ∷ no_mw ∷ one 20 ∷ (0 ∷ 0 ∷ 0 ∷ 1 ∷ 0 ∷ []) ∷ []);
      said = 0 ∷ 0 ∷ 9 ∷ 0 ∷ 0 ∷ 0 ∷ 0 ∷ 0 ∷ 3 ∷ 4 ∷ 0 ∷ 10 ∷ [];
    }
    -- short at the direction in the first hour one value is compared, at the first profile two, and at the second that holds the direction three
    ∷ record { computed = searches (monday three_profiles).book (one 101 ∷ one 61 ∷ one 21 ∷ []); said = 1 ∷ 0 ∷ 1 ∷ 1 ∷ 1 ∷ 2 ∷ 1 ∷ 3 ∷ 3 ∷ [] }
    -- short in the third hour: three values for each hour before it
    ∷ record {
      computed = searches (monday three_profiles).book ((10 ∷ 0 ∷ 101 ∷ 0 ∷ 0 ∷ []) ∷ (10 ∷ 0 ∷ 21 ∷ 0 ∷ 0 ∷ []) ∷ []);
      said = 3 ∷ 0 ∷ 7 ∷ 3 ∷ 3 ∷ 9 ∷ [];
    }
    -- the most: five hours of a direction that eight profiles hold, the last of which is short in the last hour; where the direction is short there, 37
    ∷ record { computed = searches (sunday eight_profiles).book (fifth 50 ∷ fifth 51 ∷ []); said = 5 ∷ 8 ∷ 45 ∷ 5 ∷ 0 ∷ 37 ∷ [] }
    -- right 100: m 90, 60 give 60, 40; the last two nominations exceed the right on their side, and matching at 1,394 is too early
    ∷ record { computed = (read_confirmed (monday two_pairs).book 0 0 0).mw ++ (read_confirmed (monday two_pairs).book 0 0 1).mw; said = one 60 ++ one 40 }
    ∷ record {
      computed = numbers_of (monday two_pairs).replies;
      said = 0 ∷ 0 ∷ 0 ∷ 0 ∷ 0 ∷ 0 ∷ 0 ∷ 1 ∷ 0 ∷ 0 ∷ 100 ∷ 0 ∷ 0 ∷ 0 ∷ 0 ∷ 0 ∷ 0 ∷ 0 ∷ 0 ∷ 0 ∷ 0 ∷ 0 ∷ 1 ∷ 0 ∷ 0 ∷ 1 ∷ 0 ∷ 16 ∷ 0 ∷ 0 ∷ 0 ∷ 1 ∷ 0 ∷ [];
    }
    -- right 100: m 50, 50, 50 give 33 each
    ∷ record {
      computed = (read_confirmed (monday three_pairs).book 0 0 0).mw ++ (read_confirmed (monday three_pairs).book 0 0 1).mw ++ (read_confirmed (monday three_pairs).book 0 1 0).mw;
      said = one 33 ++ one 33 ++ one 33;
    }
    -- the same of lower values in a list
    ∷ record { computed = confirmed_list 100 (90 ∷ 60 ∷ []) ++ confirmed_list 100 (50 ∷ 50 ∷ 50 ∷ []); said = 60 ∷ 40 ∷ 33 ∷ 33 ∷ 33 ∷ [] }
    -- 02, S-4: these three pairs lose 1 of 100 MW, which is below 3; m 90, 60 lose nothing, nor does one pair alone above the right
    ∷ record { computed = lost_numbers three_pairs 0 0; said = 100 ∷ 150 ∷ 99 ∷ 1 ∷ 3 ∷ [] }
    ∷ record { computed = lost_numbers two_pairs 0 0; said = 100 ∷ 150 ∷ 100 ∷ 0 ∷ 2 ∷ [] }
    ∷ record { computed = lost_numbers one_pair 0 0; said = 100 ∷ 130 ∷ 100 ∷ 0 ∷ 1 ∷ [] }
    -- a pair with m 0 doesn't count: 1 MW is lost, which is below 2 pairs
    ∷ record { computed = lost_numbers one_side_sent 0 0; said = 100 ∷ 150 ∷ 99 ∷ 1 ∷ 2 ∷ [] }
    -- three pairs of 50 under 98 MW get 32 each and lose 2, which is below 3 and not below one fewer
    ∷ record { computed = lost_numbers two_rights 1 4; said = 98 ∷ 150 ∷ 96 ∷ 2 ∷ 3 ∷ [] }
    ∷ []
