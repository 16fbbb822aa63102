-- The call that an offer makes, what its tests find, and what the private worker leaves, over cells.
-- Assumes nothing.
use Rattle.std.specs.Prelude.{ℕ, ◌+◌, ◌-◌, ◌≡◌, true, List, set, Option, Some, None, Result, Ok, Err}
use Rattle.rules.specs.Book.{Book, place}
use Rattle.rules.specs.Calls.{Call}
use Rattle.rules.specs.Refusals.{number}
use Rattle.rules.specs.declared.Refusal.{Refusal}
use Rattle.cells.specs.Layout.{OFFERED, GRANTED}
use Rattle.cells.specs.View.{Cells, cell}
use Rattle.cells.specs.declared.Place.{Place}
use Rattle.answers.specs.Promises.{Refused}
use Rattle.answers.specs.Capacities.{capacity_unknown, offered_model, row_of, offer_of}
use Rattle.answers.specs.declared.Capacity.{Capacity}
use Rattle.stores.specs.Stores.{clocked}
use Rattle.offers.specs.declared.OfferCall.{OfferCall}

-- 01, The list of demand 3: the call, by its numbers
abbrev pub offer_call : OfferCall → Call
offer_call call = offer_of call.capacity call.time call.hour.0 call.mw

-- 01, Sessions: the model of the sessions whose windows an offer keeps, or none where its direction isn't there
abbrev pub FindsModel : Book → Capacity → Option ℕ → Type 0
FindsModel b x None = capacity_unknown b x ≡ true
FindsModel b x (Some model) = model ≡ offered_model b x

-- nothing is against the offer, and this is its place
pub record Clear (b : Book) (call : OfferCall) (at : Place) : Type 0 where
  pub clear : number b (offer_call call) ≡ 0
  pub row : at.row ≡ row_of call.capacity
  pub hour : at.hour ≡ call.hour

-- what the tests of an offer find is the number of the rules
abbrev pub JudgedOffer : Book → OfferCall → Result Place Refusal → Type 0
JudgedOffer b call (Ok at) = Clear b call at
JudgedOffer b call (Err r) = Refused b (offer_call call) r

-- the offer of a row in an hour is stored, and the clock; what is then left
pub record Placed (b : List ℕ) (call : OfferCall) (at : Place) (left : ℕ) (b' : List ℕ) : Type 0 where
  pub cells : Cells b
  pub left_is : left ≡ call.mw - cell b (GRANTED + place at.row at.hour.0)
  pub cells_are : b' ≡ clocked call.time (set b (OFFERED + place at.row at.hour.0) call.mw)
