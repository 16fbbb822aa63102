-- The call that a bid makes, and what the private workers of a bid find and leave.
-- Assumes nothing.
use Rattle.std.specs.Prelude.{ℕ, ◌≡◌, true, false, List, Option, Some, None, Result, Ok, Err}
use Rattle.rules.specs.Sessions.{first_hour, hours_in}
use Rattle.rules.specs.Book.{Book, party, direction, model_of}
use Rattle.rules.specs.Calls.{Call, Bid}
use Rattle.rules.specs.Refusals.{unknown, number}
use Rattle.rules.specs.Effects.{effect}
use Rattle.rules.specs.Details.{detail}
use Rattle.rules.specs.declared.Refusal.{Refusal}
use Rattle.cells.specs.View.{book_of}
use Rattle.tables.specs.Rows.{direction_of}
use Rattle.answers.specs.Entries.{session_of}
use Rattle.answers.specs.Promises.{Refused}
use Rattle.capacity.specs.declared.SessionHours.{SessionHours}
use Rattle.rights.specs.declared.RightOfBid.{RightOfBid}
use Rattle.rights.specs.Work.{Enters}
use Rattle.bids.specs.declared.BidCall.{BidCall}
use Rattle.bids.specs.declared.Named.{Named}
use Rattle.bids.specs.declared.Booking.{Booking}

-- 01, The list of demand 3: the call, by its numbers
abbrev pub bid_of : BidCall → Call
bid_of call = Bid call.time call.party call.direction call.session.0 call.mw

-- 01, Offers and bids: the right that a bid asks for, in a direction of the model
abbrev pub right_asked : BidCall → ℕ → RightOfBid
right_asked call model = record { model = model; key = record { holder = call.party; direction = call.direction; session = call.session } }

-- ---- the tests

-- 01, Sessions: the hours of the session that a bid names
pub record HoursOf (b : Book) (call : BidCall) (h : SessionHours) : Type 0 where
  pub direction_is : h.direction ≡ call.direction
  pub first_is : h.first.0 ≡ first_hour b.day.hours (model_of b call.direction) call.session.0
  pub count_is : h.count ≡ hours_in b.day.hours (model_of b call.direction) call.session.0

-- 01, Offers and bids: what a bid names, party, direction and session, is there, and this is it
pub record Names (b : Book) (call : BidCall) (n : Named) : Type 0 where
  pub known : unknown b (bid_of call) ≡ false
  pub access_is : n.access ≡ (party b.parties call.party).access
  pub direction_is : direction_of n.direction ≡ direction b.directions call.direction
  pub session_is : n.session ≡ session_of b call.direction call.session
  pub hours_are : HoursOf b call n.hours

-- 01, What the book says no to, 6: none where a party, direction or session isn't there
abbrev pub FindsNamed : Book → BidCall → Option Named → Type 0
FindsNamed b call None = unknown b (bid_of call) ≡ true
FindsNamed b call (Some n) = Names b call n

-- ---- the verdict

-- 01, Offers and bids: no number applies, and this is what the bid books
pub record Cleared (b : List ℕ) (call : BidCall) (x : Booking) : Type 0 where
  pub clear : number (book_of b) (bid_of call) ≡ 0
  pub hours_are : HoursOf (book_of b) call x.hours
  pub right_is : x.right ≡ right_asked call (model_of (book_of b) call.direction)
  pub enters : Enters b x.right x.entry

-- 01, What the book says no to: the tests of a bid find the number of the rules
abbrev pub JudgedBid : List ℕ → BidCall → Result Booking Refusal → Type 0
JudgedBid b call (Ok x) = Cleared b call x
JudgedBid b call (Err r) = Refused (book_of b) (bid_of call) r

-- ---- the granted bid

-- 01, Offers and bids: the whole effect of the granted bid
pub record Placed (b : List ℕ) (call : BidCall) (n : ℕ) (b' : List ℕ) : Type 0 where
  pub number_is : n ≡ detail (book_of b) (bid_of call)
  pub book_is : book_of b' ≡ effect (book_of b) (bid_of call)
