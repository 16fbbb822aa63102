-- The example of document 01, computed.
-- Assumes nothing.
use Rattle.std.proofs.Common.{ℕ, List, refl, ap, ◌∙◌}
use Rattle.rules.specs.Basics.{between, bit, map_of, has, any_above, same, mw_at}
use Rattle.rules.specs.Calendar.{leap, days_in, is_date, days_of_years, days_of_months, days_since, weekday_of, last_sunday, hours_of}
use Rattle.rules.specs.Sessions.{session_there, first_hour, hours_in, session_of}
use Rattle.rules.specs.Windows.{timing, gate_hour, opens, bids_close, held, bid_timing, offer_timing}
use Rattle.rules.specs.Codes.{char_value, all_chars, weighted, is_code}
use Rattle.rules.specs.Book.{holds, opened}
use Rattle.rules.specs.Setup.{direction_taken, code_taken}
use Rattle.rules.specs.Bids.{profile_short, short_profile, short_hour, shortage, share, with_bid, with_right, right_number}
use Rattle.rules.specs.Refusals.{order, first_of, field, setup_shut, clock, hour_unknown, unknown, taken, timing_of, hours_lacking, wrong_hours, no_access, not_owner, cycle, full, shortage_of, refuses}
use Rattle.rules.specs.Effects.{is_timed, clock_after, directions_after, profiles_after, parties_after, offered_after, granted_after, rights_after, pairs_after, matched_after, effect}
use Rattle.rules.specs.Details.{detail, refusal}
use Rattle.rules.specs.Run.{applied, run}
use Rattle.rules.specs.Opening.{opening_refuses, day_of, undated_monday, opened_day, opening}
use Rattle.rules.specs.Records.{widths, call_of, kinds, stands, standing, number_at, fields_at, end_at, fields_in, end_in, reader_refuses, reading}
use Rattle.lines.specs.Text.{digits_of, line_of}
use Rattle.dayrun_records.specs.Records.{start_calls, start_book, call_made, at_front}
use Rattle.dayrun_progress.specs.States.{answerable}
use Rattle.stream.specs.Input.{lines_in, printed}
use Rattle.stream.specs.Running.{ExamplePrinted, ExampleWritten}
use Rattle.stream.proofs.Running.{writes_all}

pub example_printed : ExamplePrinted
unfolding leap days_in is_date days_of_years days_of_months days_since weekday_of last_sunday hours_of bit map_of has any_above same mw_at session_there first_hour hours_in session_of timing gate_hour opens bids_close held bid_timing offer_timing between char_value all_chars weighted is_code holds opened direction_taken code_taken profile_short short_profile short_hour shortage share with_bid with_right right_number order first_of field setup_shut clock hour_unknown unknown taken timing_of hours_lacking wrong_hours no_access not_owner cycle full shortage_of refuses is_timed clock_after directions_after profiles_after parties_after offered_after granted_after rights_after pairs_after matched_after effect detail refusal applied run opening_refuses day_of undated_monday opened_day opening widths call_of kinds stands standing number_at fields_at end_at fields_in end_in reader_refuses reading digits_of line_of start_calls start_book call_made at_front answerable lines_in
example_printed = refl

pub example_written : ExampleWritten
example_written room size input written rest st room_for_line s t last e = writes_all room size input written rest st room_for_line s t last ∙ ap (λ (i : List ℕ). printed start_book 1 i) e ∙ example_printed
