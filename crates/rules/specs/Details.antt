-- 01, the two details that go with the reply to a call.
-- Assumes nothing.
use Rattle.std.specs.Prelude.{ℕ, ◌-◌, if◌then◌else◌, ◌==◌, length, get_or}
use Rattle.rules.specs.Book.{Book, place, of_profile, model_of}
use Rattle.rules.specs.Calls.{Call, AddDirection, AddProfile, AddParty, OfferDirection, OfferProfile, Bid, Nominate, Match, Reply}
use Rattle.rules.specs.Bids.{Shortage, nothing_short, short_at, right_number}
use Rattle.rules.specs.Nominations.{out_of, into_of, with_pair, marks, count_rights}
use Rattle.rules.specs.Refusals.{shortage_of}

-- the first detail of a grant; the second is 0. Set-up: the number given; offer: left; bid: right number; nomination: marks; matching: count of rights
unfoldable pub detail : Book → Call → ℕ
detail b (AddDirection o i m) = length b.directions
detail b (AddProfile map) = length b.profiles
detail b (AddParty code access) = length b.parties
detail b (OfferDirection time d hour mw) = mw - get_or b.granted (place d hour) 0
detail b (OfferProfile time p hour mw) = mw - get_or b.granted (place (of_profile p) hour) 0
detail b (Bid time p d session mw) = right_number (model_of b d) p d session b.rights
detail b (Nominate time sender other r side mw) =
    marks b.rights (with_pair r (out_of sender other side) (into_of sender other side) side mw b.pairs) r side
detail b (Match time d session) = count_rights d session b.rights

abbrev pub short_hour_of : Shortage → ℕ
short_hour_of nothing_short = 0
short_hour_of (short_at h l) = h

abbrev pub short_capacity_of : Shortage → ℕ
short_capacity_of nothing_short = 0
short_capacity_of (short_at h l) = l

-- refusal 15 has the hour of the day, then 0 for the direction or 1 + profile number; every other refusal 0, 0
unfoldable pub refusal : Book → Call → ℕ → Reply
refusal b c n =
    record {
      number = n;
      first = if n == 15 then short_hour_of (shortage_of b c) else 0;
      second = if n == 15 then short_capacity_of (shortage_of b c) else 0;
    }
