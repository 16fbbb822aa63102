-- 01, Day and clock, and the windows of Sessions: minutes from 24 hours before the day begins. No other file of these rules has a minute in it.
-- Assumes nothing.
use Rattle.std.specs.Prelude.{ℕ, ◌+◌, ◌*◌, Bool, if◌then◌else◌, ◌&&◌, nat_le, nat_lt, ◌==◌}
use Rattle.rules.specs.Sessions.{first_hour, session_of}
use Rattle.rules.specs.declared.Timing.{Timing}
use Rattle.rules.specs.declared.Timing.TheVariants.{Early, Within, Late}

-- the latest time that a call may have
abbrev pub latest : ℕ
latest = 2999

-- where a time stands to a window, which holds its first minute and not its last
unfoldable pub timing : ℕ → ℕ → ℕ → Timing
timing opening closing time = if nat_lt time opening then Early else if nat_lt time closing then Within else Late

-- on a Tuesday the one-hour sessions 22, 23 and 24 close, and open for matching, as session 21 does
unfoldable pub gate_hour : ℕ → ℕ → ℕ → ℕ
gate_hour weekday model hour = if weekday == 2 && model == 1 && nat_lt 21 hour then 21 else hour

-- of a session whose first hour is `hour`: bids and nominations open, and close
unfoldable pub opens : ℕ → ℕ → ℕ
opens model hour = if model == 1 then 1080 else 1020 + 60 * hour

unfoldable pub bids_close : ℕ → ℕ → ℕ → ℕ
bids_close weekday model hour = 1230 + 60 * gate_hour weekday model hour

unfoldable pub nominations_close : ℕ → ℕ → ℕ → ℕ
nominations_close weekday model hour = 1290 + 60 * gate_hour weekday model hour

-- offers open
abbrev pub offers_open : ℕ
offers_open = 960

-- matching opens, and has no end
unfoldable pub matching_opens : ℕ → ℕ → ℕ → ℕ
matching_opens weekday model hour = 1335 + 60 * gate_hour weekday model hour

-- a Wednesday book grants no bid from 1,170 up to and not at 1,290
abbrev pub hold_begins : ℕ
hold_begins = 1170

abbrev pub hold_ends : ℕ
hold_ends = 1290

unfoldable pub held : ℕ → ℕ → Bool
held weekday time = weekday == 3 && nat_le hold_begins time && nat_lt time hold_ends

-- ---- each window, of a day with n hours and a weekday (Monday 1 to Sunday 7)

-- the session's bids; a bid in the Wednesday hold is early (02, S-1)
unfoldable pub bid_timing : ℕ → ℕ → ℕ → ℕ → ℕ → Timing
bid_timing n weekday model session time =
    if held weekday time then Early else timing (opens model (first_hour n model session)) (bids_close weekday model (first_hour n model session)) time

-- the session's nominations
unfoldable pub nomination_timing : ℕ → ℕ → ℕ → ℕ → ℕ → Timing
nomination_timing n weekday model session time =
    timing (opens model (first_hour n model session)) (nominations_close weekday model (first_hour n model session)) time

-- the offers for an hour, to the close of bids of the session that holds it; for a profile the model is 1
unfoldable pub offer_timing : ℕ → ℕ → ℕ → ℕ → ℕ → Timing
offer_timing n weekday model hour time = timing offers_open (bids_close weekday model (first_hour n model (session_of n model hour))) time

-- the session's matching, which is never late
unfoldable pub matching_timing : ℕ → ℕ → ℕ → ℕ → ℕ → Timing
matching_timing n weekday model session time = if nat_lt time (matching_opens weekday model (first_hour n model session)) then Early else Within
