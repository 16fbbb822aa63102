-- 01, Offers and bids: what refusal 15 says, and when it is given.
-- Assumes nothing.
use Rattle.std.specs.Prelude.{ℕ, ◌+◌, ◌≤◌, ◌<◌, ◌≡◌, true, List, get_or}
use Rattle.rules.specs.Basics.{bit}
use Rattle.rules.specs.Sessions.{first_hour}
use Rattle.rules.specs.Book.{Book, holds, left_at, of_profile, model_of}
use Rattle.rules.specs.Calls.{Call, Bid, Reply}
use Rattle.rules.specs.Refusals.{order, before, refuses}
use Rattle.rules.specs.Run.{applied}
use Rattle.rules.specs.Demand1.{None}
use Rattle.rules.specs.Demand3.{WithinLimits}

-- hour number k of a bid on direction d, whose MW are for hours from `first` on, asks more than is left in a row that holds the direction
pub record ShortHour (b : Book) (d first : ℕ) (mws : List ℕ) : Type 0 where
  pub k : ℕ
  pub row : ℕ
  pub held : holds b.profiles d row ≡ true
  pub above : left_at b row (first + k) < get_or mws k 0

-- no row that holds the direction is short in hour number k
abbrev pub HourFits : Book → ℕ → ℕ → List ℕ → ℕ → Type 0
HourFits b d first mws k = (row : ℕ) → holds b.profiles d row ≡ true → get_or mws k 0 ≤ left_at b row (first + k)

-- what the second detail names: 0 the direction; 1 + p profile p, where neither the direction nor a lower profile that holds it is short
abbrev pub NamesCapacity : Book → ℕ → ℕ → ℕ → ℕ → Type 0
NamesCapacity b d hour mw ℕ.zero = left_at b d hour < mw
NamesCapacity b d hour mw (ℕ.suc p) =
    (mw ≤ left_at b d hour) × (bit (get_or b.profiles p 0) d ≡ true) × (left_at b (of_profile p) hour < mw)
    × ((q : ℕ) → q < p → bit (get_or b.profiles q 0) d ≡ true → mw ≤ left_at b (of_profile q) hour)

-- the shortage named: the first hour that is short, and in it the direction before the profiles, the lowest profile first
pub record NamesFirst (b : Book) (d first : ℕ) (mws : List ℕ) (hour capacity : ℕ) : Type 0 where
  pub k : ℕ
  pub hour_is : hour ≡ first + k
  pub earlier : (j : ℕ) → j < k → HourFits b d first mws j
  pub named : NamesCapacity b d hour (get_or mws k 0) capacity

-- short hours exist exactly when 15 is the reply to a bid that nothing before 15 in the order refuses; the reply names the first
module _ (b : Book) (time p d session : ℕ) (mw : List ℕ) where
  abbrev pub bid : Call
  bid = Bid time p d session mw

  abbrev pub reply : Reply
  reply = (applied b bid).reply

  abbrev pub first : ℕ
  first = first_hour b.day.hours (model_of b d) session

  pub record ShortExactly : Type 0 where
    pub when_short : None (refuses b bid) (before 15 order) → ShortHour b d first mw → reply.number ≡ 15
    pub only_then : reply.number ≡ 15 → ShortHour b d first mw
    pub names_first : reply.number ≡ 15 → NamesFirst b d first mw reply.first reply.second

-- in every book within the limits
abbrev pub ShortRule : Type 0
ShortRule = (b : Book) → WithinLimits b → (time p d session : ℕ) (mw : List ℕ) → ShortExactly b time p d session mw
