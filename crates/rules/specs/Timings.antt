-- 02, S-1: what a trader may count on where a call is too early or too late.
-- Assumes nothing.
use Rattle.std.specs.Prelude.{ℕ, ◌≤◌, ◌<◌, ◌≡◌, true, false, ◌&&◌, List}
use Rattle.rules.specs.Sessions.{session_there, first_hour}
use Rattle.rules.specs.Windows.{bids_close, held, bid_timing, nomination_timing, offer_timing}
use Rattle.rules.specs.Book.{Book}
use Rattle.rules.specs.Calls.{Call, Bid, Match}
use Rattle.rules.specs.Refusals.{refuses}
use Rattle.rules.specs.declared.Timing.TheVariants.{Late}

pub record EarlyOrLate : Type 0 where
  -- 16 and 8 never hold together
  pub never_both : (b : Book) (c : Call) → (refuses b c 16 && refuses b c 8) ≡ false
  -- a matching is never late
  pub matching_never_late : (b : Book) (time d session : ℕ) → refuses b (Match time d session) 8 ≡ false
  -- a bid in the Wednesday hold is too early, whatever its session
  pub held_is_early : (b : Book) (time p d session : ℕ) (mw : List ℕ) → held b.day.weekday time ≡ true → refuses b (Bid time p d session mw) 16 ≡ true
  -- on a day of 01, which has 23 hours or more, each minute of the hold is before the close of any session's bids: no bid is in the hold and late
  pub held_before_close : (n weekday model session time : ℕ) → 23 ≤ n → session_there n model session ≡ true → held weekday time ≡ true
      → time < bids_close weekday model (first_hour n model session)
  -- what is too late stays so
  pub bids_stay_late : (n weekday model session time later : ℕ) → 23 ≤ n → session_there n model session ≡ true → time ≤ later
      → bid_timing n weekday model session time ≡ Late → bid_timing n weekday model session later ≡ Late
  pub nominations_stay_late : (n weekday model session time later : ℕ) → time ≤ later
      → nomination_timing n weekday model session time ≡ Late → nomination_timing n weekday model session later ≡ Late
  pub offers_stay_late : (n weekday model hour time later : ℕ) → time ≤ later
      → offer_timing n weekday model hour time ≡ Late → offer_timing n weekday model hour later ≡ Late
