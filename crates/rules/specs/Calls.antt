-- 01, The list of demand 3: the calls that it holds, and the reply to a call.
-- Assumes nothing.
use Rattle.std.specs.Prelude.{ℕ, Bool, List, ◌==◌}

-- set-up, offers, bids, nominations and matchings, with any numbers and bytes
pub data Call : Type 0 where
  -- out operator, in operator, model
  AddDirection : ℕ → ℕ → ℕ → Call
  -- map of directions
  AddProfile : ℕ → Call
  -- code, access map
  AddParty : List ℕ → ℕ → Call
  -- time, direction, hour, MW
  OfferDirection : ℕ → ℕ → ℕ → ℕ → Call
  -- time, profile, hour, MW
  OfferProfile : ℕ → ℕ → ℕ → ℕ → Call
  -- time, party, direction, session, five MW
  Bid : ℕ → ℕ → ℕ → ℕ → List ℕ → Call
  -- time, sender, other party, right, side, five MW
  Nominate : ℕ → ℕ → ℕ → ℕ → ℕ → List ℕ → Call
  -- time, direction, session
  Match : ℕ → ℕ → ℕ → Call

-- a number, 0 for granted, and two details
pub record Reply : Type 0 where
  pub number : ℕ
  pub first : ℕ
  pub second : ℕ

-- a reply whose details are both 0
abbrev pub no_details : ℕ → Reply
no_details n = record { number = n; first = 0; second = 0 }

abbrev pub is_grant : Reply → Bool
is_grant a = a.number == 0
