-- The call that a line makes: its fields are the numbers of the line in their order.
-- Assumes nothing.
use Rattle.std.specs.Prelude.{ℕ, ◌+◌, List, [], ◌∷◌}
use Rattle.rules.specs.Calls.{Call, AddDirection, AddProfile, AddParty, OfferDirection, OfferProfile, Bid, Nominate, Match}
use Rattle.rehearse_lines.specs.declared.kinds.CallKind.{CallKind}
use Rattle.rehearse_lines.specs.declared.kinds.CallKind.TheVariants.{Direction, Profile, Party, Offer, Bid as BidLine, Nominate as NominateLine, Match as MatchLine}
use Rattle.rehearse_lines.specs.declared.kinds.CapacityKind.TheVariants.{Direction as OfDirection, Profile as OfProfile}
use Rattle.rehearse_numbers.specs.Fields.{byte_at, two_at, four_at}

-- the MW of a session's five hours
abbrev pub five_from : List ℕ → ℕ → List ℕ
five_from given k = two_at given k ∷ two_at given (k + 1) ∷ two_at given (k + 2) ∷ two_at given (k + 3) ∷ two_at given (k + 4) ∷ []

-- out operator, in operator, model
abbrev pub direction_of : List ℕ → Call
direction_of given = AddDirection (byte_at given 0) (byte_at given 1) (byte_at given 2)

-- direction, hour, MW
abbrev pub offer_of : List ℕ → Call
offer_of given = OfferDirection (four_at given 0) (byte_at given 1) (byte_at given 2) (two_at given 3)

-- profile, hour, MW
abbrev pub profile_offer_of : List ℕ → Call
profile_offer_of given = OfferProfile (four_at given 0) (byte_at given 1) (byte_at given 2) (two_at given 3)

-- party, direction, session, five MW
abbrev pub bid_of : List ℕ → Call
bid_of given = Bid (four_at given 0) (byte_at given 1) (byte_at given 2) (byte_at given 3) (five_from given 4)

-- sender, other party, right, side, five MW
abbrev pub nominate_of : List ℕ → Call
nominate_of given = Nominate (four_at given 0) (byte_at given 1) (byte_at given 2) (two_at given 3) (byte_at given 4) (five_from given 5)

-- direction, session
abbrev pub match_of : List ℕ → Call
match_of given = Match (four_at given 0) (byte_at given 1) (byte_at given 2)

-- by the kind of the line
abbrev pub line_call : CallKind → List ℕ → Call
line_call Direction given = direction_of given
line_call Profile given = AddProfile (four_at given 0)
line_call (Party code) given = AddParty code (byte_at given 0)
line_call (Offer OfDirection) given = offer_of given
line_call (Offer OfProfile) given = profile_offer_of given
line_call BidLine given = bid_of given
line_call NominateLine given = nominate_of given
line_call MatchLine given = match_of given
