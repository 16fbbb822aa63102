-- What a bid names: unknown where the rules find it unknown, and the hours of its session are hours of the day.
-- Assumes nothing.
use Prim.Native.Nat.{ℕ, ◌+◌, ◌-◌, ◌≤◌, ◌<◌}
use mathlib.Core.Path.{◌≡◌, ap, ◌∙◌}
use mathlib.Core.Bool.{Bool, true, false, cond, not}
use mathlib.Core.List.{List}
use native.Mathlib.Omega.{arith}
use lib.Dec.{eqb, leb}
use Rattle.rules.specs.Sessions.{session_there, first_hour, hours_in, first_hour_there}
use Rattle.rules.specs.Book.{direction_limit}
use Rattle.rules.specs.Refusals.{direction_unknown, party_unknown, unknown}
use Rattle.rules.proofs.Sessions.{hours_there}
use Rattle.day.specs.declared.DaySession.{DaySession}
use Rattle.cells.specs.View.{book_of}
use Rattle.cells.proofs.Views.{known_direction, hours_few, hours_within}
use Rattle.answers.specs.Entries.{session_of}
use Rattle.capacity.specs.Search.{Hours}
use Rattle.capacity.specs.declared.SessionHours.{SessionHours}
use Rattle.bids.specs.declared.BidCall.{BidCall}
use Rattle.bids.specs.Work.{bid_of, HoursOf}

hours_some : (n model s : ℕ) → 23 ≤ n → 1 ≤ hours_in n model s
unfolding hours_in
hours_some n model s h = go (eqb model 1) (leb s 1)
  where
    go : (t u : Bool) → 1 ≤ cond t 1 (cond u (4 + n - 24) 4)
    go true u = omega arith
    go false true = omega arith
    go false false = omega arith

-- the hours of a session that is there are hours of the day, at most five
session_inside : (n model s d first count : ℕ) → (23 ≤ n) × (n ≤ 25) → d < direction_limit → session_there n model s ≡ true → first ≡ first_hour n model s → count ≡ hours_in n model s
    → Hours d first count
session_inside n model s d first count w l t f c =
    let some = hours_some n model s w.0 in
    let few = hours_few n model s w.1 in
    let one = hours_there n model s 0 w.0 w.1 t some in
    let last = hours_there n model s (hours_in n model s - 1) w.0 w.1 t (omega arith) in
    record { direction = l; few = omega arith; first = omega arith; last = omega arith }

module _ (b : List ℕ) (call : BidCall) where
  pub party_missing : party_unknown (book_of b) call.party ≡ true → unknown (book_of b) (bid_of call) ≡ true
  unfolding unknown
  party_missing p = rw p

  pub direction_missing : party_unknown (book_of b) call.party ≡ false → direction_unknown (book_of b) call.direction ≡ true → unknown (book_of b) (bid_of call) ≡ true
  unfolding unknown
  direction_missing p d = rw (p, d)

  module _ (x : DaySession) (e : x ≡ session_of (book_of b) call.direction call.session) (d : direction_unknown (book_of b) call.direction ≡ false) where
    pub session_decides : party_unknown (book_of b) call.party ≡ false → {t : Bool} → session_there x.day.hours x.model x.session.0 ≡ t
        → unknown (book_of b) (bid_of call) ≡ not t
    unfolding unknown
    session_decides p t = rw (p, d) (ap not (rw e at t))

    module _ (t : session_there x.day.hours x.model x.session.0 ≡ true) {first count : ℕ}
        (f : first ≡ first_hour_there x.day.hours x.model x.session.0) (c : count ≡ hours_in x.day.hours x.model x.session.0) where
      first_is : first ≡ first_hour x.day.hours x.model x.session.0
      unfolding first_hour_there
      first_is = f ∙ rw t

      pub hours_inside : Hours call.direction first count
      unfolding book_of
      hours_inside =
          let l = known_direction b call.direction d in
          let few : call.direction < direction_limit = omega arith in
          session_inside x.day.hours x.model x.session.0 call.direction first count (rw e (hours_within b)) few t first_is c

      pub hours_of : (h : SessionHours) → h.direction ≡ call.direction → h.first.0 ≡ first → h.count ≡ count → HoursOf (book_of b) call h
      hours_of h i j k = record { direction_is = i; first_is = j ∙ rw e at first_is; count_is = k ∙ rw e at c }
