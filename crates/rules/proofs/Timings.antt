-- Too early and too late never meet, and what is too late stays so.
-- Assumes nothing.
use Prim.Native.Nat.{ℕ, ◌+◌, ◌-◌, ◌*◌, ◌≤◌, ◌<◌}
use mathlib.Core.Path.{◌≡◌, refl, ap}
use mathlib.Core.Bool.{Bool, true, false, cond, ◌&&◌, false≢true}
use mathlib.Core.List.{List}
use native.Mathlib.Omega.{arith}
use lib.Dec.{eqb, leb, ltb}
use borrow.Author.Tests.{leb-false, ltb-true, ltb-false, le-ltb}
use Rattle.rules.specs.Sessions.{session_there, first_hour}
use Rattle.rules.specs.Windows.{timing, gate_hour, opens, bids_close, matching_opens, hold_begins, hold_ends, held, bid_timing, nomination_timing, offer_timing, matching_timing}
use Rattle.rules.specs.Book.{Book, model_of}
use Rattle.rules.specs.Calls.{Call, Bid, Match}
use Rattle.rules.specs.Refusals.{timing_of, too_early, too_late, refuses}
use Rattle.rules.specs.Timings.{EarlyOrLate}
use Rattle.rules.specs.declared.Timing.{Timing}
use Rattle.rules.specs.declared.Timing.TheVariants.{Early, Within, Late}
use Rattle.rules.proofs.Bools.{and_right}
use Rattle.rules.proofs.Sessions.{session_from}

-- ---- early and late

never_both : (b : Book) (c : Call) → (refuses b c 16 && refuses b c 8) ≡ false
unfolding refuses
never_both b c = go (timing_of b c)
  where
    go : (t : Timing) → (too_early t && too_late t) ≡ false
    go Early = refl
    go Within = refl
    go Late = refl

matching_never_late : (b : Book) (time d session : ℕ) → refuses b (Match time d session) 8 ≡ false
unfolding refuses timing_of matching_timing
matching_never_late b time d session = go (ltb time (matching_opens b.day.weekday (model_of b d) (first_hour b.day.hours (model_of b d) session)))
  where
    go : (t : Bool) → too_late (cond t Early Within) ≡ false
    go true = refl
    go false = refl

-- ---- the Wednesday hold and the close of bids

first_hour_from : (n model s : ℕ) → 23 ≤ n → session_there n model s ≡ true → 1 ≤ first_hour n model s
unfolding first_hour
first_hour_from n model s h t = go (eqb model 1) (leb s 1) refl (session_from n model s t)
  where
    go : (o p : Bool) → leb s 1 ≡ p → 1 ≤ s → 1 ≤ cond o s (cond p 1 (1 + 4 * (s - 1) + n - 24))
    go true p q a = a
    go false true q a = omega arith
    go false false q a = let b = leb-false s 1 q in omega arith

gate_hour_from : (weekday model hour : ℕ) → 1 ≤ hour → 1 ≤ gate_hour weekday model hour
unfolding gate_hour
gate_hour_from weekday model hour h = go (eqb weekday 2 && eqb model 1 && ltb 21 hour)
  where
    go : (t : Bool) → 1 ≤ cond t 21 hour
    go true = omega arith
    go false = h

held_is_early : (b : Book) (time p d session : ℕ) (mw : List ℕ) → held b.day.weekday time ≡ true → refuses b (Bid time p d session mw) 16 ≡ true
unfolding refuses timing_of bid_timing
held_is_early b time p d session mw e = rw e

closes_from : (n weekday model s : ℕ) → 23 ≤ n → session_there n model s ≡ true → hold_ends ≤ bids_close weekday model (first_hour n model s)
unfolding bids_close
closes_from n weekday model s h t = let g = gate_hour_from weekday model (first_hour n model s) (first_hour_from n model s h t) in omega arith

held_to : (weekday time : ℕ) → held weekday time ≡ true → time < hold_ends
unfolding held
held_to weekday time e = ltb-true time hold_ends (and_right (eqb weekday 3 && leb hold_begins time) _ e)

held_before_close : (n weekday model s time : ℕ) → 23 ≤ n → session_there n model s ≡ true → held weekday time ≡ true
    → time < bids_close weekday model (first_hour n model s)
held_before_close n weekday model s time h t e =
    let a = closes_from n weekday model s h t in
    let b = held_to weekday time e in
    omega arith

-- ---- what is too late stays so

-- late is at or after the opening and the close
late_from : (opening closing time : ℕ) → timing opening closing time ≡ Late → (opening ≤ time) × (closing ≤ time)
unfolding timing
late_from opening closing time e = go (ltb time opening) refl (ltb time closing) refl
  where
    go : (p : Bool) → ltb time opening ≡ p → (q : Bool) → ltb time closing ≡ q → (opening ≤ time) × (closing ≤ time)
    go true a q b = absurd (false≢true (ap too_late (rw (a, timing) at e)))
    go false a true b = absurd (false≢true (ap too_late (rw (a, b, timing) at e)))
    go false a false b = (ltb-false time opening a, ltb-false time closing b)

stays_late : (opening closing time later : ℕ) → time ≤ later → timing opening closing time ≡ Late → timing opening closing later ≡ Late
unfolding timing
stays_late opening closing time later l e =
    let f = late_from opening closing time e in
    rw (le-ltb later opening (omega (arith, f.0)), le-ltb later closing (omega (arith, f.1)))

-- a late bid is not in the hold
late_not_held : (n weekday model s time : ℕ) → bid_timing n weekday model s time ≡ Late → held weekday time ≡ false
unfolding bid_timing
late_not_held n weekday model s time e = go (held weekday time) refl
  where
    go : (t : Bool) → held weekday time ≡ t → held weekday time ≡ false
    go true p = absurd (false≢true (ap too_late (rw (p, bid_timing) at e)))
    go false p = p

bids_stay_late : (n weekday model s time later : ℕ) → 23 ≤ n → session_there n model s ≡ true → time ≤ later
    → bid_timing n weekday model s time ≡ Late → bid_timing n weekday model s later ≡ Late
unfolding bid_timing
bids_stay_late n weekday model s time later h t l e = go (held weekday later) refl
  where
    o : ℕ
    o = opens model (first_hour n model s)

    c : ℕ
    c = bids_close weekday model (first_hour n model s)

    late : timing o c time ≡ Late
    late = rw (late_not_held n weekday model s time e, bid_timing) at e

    go : (x : Bool) → held weekday later ≡ x → bid_timing n weekday model s later ≡ Late
    go true p =
        let f = (late_from o c time late).1 in
        let u = held_before_close n weekday model s later h t p in
        absurd (omega (arith, f, u))
    go false p = rw (p, bid_timing) (stays_late o c time later l late)

pub early_or_late : EarlyOrLate
unfolding nomination_timing offer_timing
early_or_late =
    record {
      never_both = never_both;
      matching_never_late = matching_never_late;
      held_is_early = held_is_early;
      held_before_close = held_before_close;
      bids_stay_late = bids_stay_late;
      nominations_stay_late = λ n weekday model s time later. stays_late _ _ time later;
      offers_stay_late = λ n weekday model hour time later. stays_late _ _ time later;
    }
