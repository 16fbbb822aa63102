-- The cases of the papers, computed.
-- Assumes nothing.
use mathlib.Core.Path.{refl}
use native.Mathlib.Omega.{arith}
use lib.Count.{ones, ones_in}
use Rattle.rules.specs.Basics.{between, bit, map_of, has, any_above, same, mw_at}
use Rattle.rules.specs.Calendar.{leap, days_in, is_date, days_of_years, days_of_months, days_since, weekday_of, last_sunday, hours_of}
use Rattle.rules.specs.Sessions.{session_there, first_hour, hours_in, session_of}
use Rattle.rules.specs.Windows.{timing, gate_hour, opens, bids_close, nominations_close, matching_opens, held, bid_timing, nomination_timing, offer_timing, matching_timing}
use Rattle.rules.specs.Codes.{char_value, all_chars, weighted, is_code}
use Rattle.rules.specs.Book.{holds, opened}
use Rattle.rules.specs.Setup.{direction_taken, code_taken}
use Rattle.rules.specs.Bids.{profile_short, short_profile, short_hour, shortage, share, with_bid, wrap_added, is_right_of, right_taken, added_right, with_right, right_from, right_number}
use Rattle.rules.specs.Searches.{to_last_asked, profile_rows, comparisons, up_to_short}
use Rattle.rules.specs.Nominations.{is_pair_of, pair_taken, pair_of, with_side, with_pair, side_total, above_right, marks, count_rights, lower_total, confirmed_of, confirmed_at}
use Rattle.rules.specs.Refusals.{order, first_of, field, setup_shut, clock, hour_unknown, unknown, taken, timing_of, hours_lacking, wrong_hours, no_access, not_owner, is_matched, cycle, full, shortage_of, refuses}
use Rattle.rules.specs.Effects.{is_timed, clock_after, directions_after, profiles_after, parties_after, offered_after, granted_after, rights_after, pairs_after, matched_after, effect}
use Rattle.rules.specs.Details.{detail, refusal}
use Rattle.rules.specs.Run.{applied, run}
use Rattle.rules.specs.Opening.{opening_refuses, day_of, undated_monday, opened_day, opening}
use Rattle.rules.specs.Reads.{direction_read_refuses, read_direction, profile_read_refuses, read_profile, confirmed_read_refuses, read_confirmed}
use Rattle.rules.specs.Records.{widths, fields_of, call_of, kinds, stands, standing, bytes_of, body, record_of, number_at, fields_at, end_at, fields_in, end_in, reader_refuses, reading}
use Rattle.rules.specs.History.{granted_calls, directions_of, rights_with, rights_from, is_key, has_key, pairs_with, pairs_from, side_after, last_side, is_match_of, was_matched}
use Rattle.rules.specs.Cases.{AllAsSaid, ProRataCases, monday, sunday, bid_record, cases}

computed : AllAsSaid cases × ProRataCases
unfolding cases monday sunday bid_record leap days_in is_date days_of_years days_of_months days_since weekday_of last_sunday hours_of ones ones_in bit map_of has any_above same mw_at session_there first_hour hours_in session_of timing gate_hour opens bids_close nominations_close matching_opens held bid_timing nomination_timing offer_timing matching_timing between char_value all_chars weighted is_code holds opened direction_taken code_taken profile_short short_profile short_hour shortage share with_bid wrap_added is_right_of right_taken added_right with_right right_from right_number to_last_asked profile_rows comparisons up_to_short is_pair_of pair_taken pair_of with_side with_pair side_total above_right marks count_rights lower_total confirmed_of confirmed_at order first_of field setup_shut clock hour_unknown unknown taken timing_of hours_lacking wrong_hours no_access not_owner is_matched cycle full shortage_of refuses is_timed clock_after directions_after profiles_after parties_after offered_after granted_after rights_after pairs_after matched_after effect detail refusal applied run opening_refuses day_of undated_monday opened_day opening direction_read_refuses read_direction profile_read_refuses read_profile confirmed_read_refuses read_confirmed widths fields_of call_of kinds stands standing bytes_of body record_of number_at fields_at end_at fields_in end_in reader_refuses reading granted_calls directions_of rights_with rights_from is_key has_key pairs_with pairs_from side_after last_side is_match_of was_matched
computed = (
  (refl, (refl, (refl, (refl, (refl, (refl, (refl, (refl, (refl, (refl, (refl, (refl, (refl, (refl, (refl, (refl, (refl, (refl, (refl, (refl, (refl, (refl, (refl, (refl, (refl, (refl, (refl, (refl, (refl, (refl, (refl, (refl, (refl, (refl, (refl, (refl, (refl, (refl, (refl, (refl, (refl, (refl, (refl, (refl, (refl, (refl, (refl, (refl, (refl, (refl, (refl, (refl, (refl, (refl, (refl, (refl, (refl, (refl, (refl, (refl, (refl, (refl, (refl, (refl, (refl, (refl, tt)))))))))))))))))))))))))))))))))))))))))))))))))))))))))))))))))),
  (
    record { hour = omega arith; there = omega arith; matched = refl; above = omega arith },
    record { hour = omega arith; there = omega arith; matched = refl; above = omega arith },
    record { hour = omega arith; there = omega arith; matched = refl; above = omega arith },
    record { hour = omega arith; there = omega arith; matched = refl; above = omega arith },
    record { hour = omega arith; there = omega arith; matched = refl; above = omega arith },
  ),
)

pub as_said : AllAsSaid cases
as_said = computed.0

-- 02, S-4 is claimed of these
pub pro_rata_cases : ProRataCases
pro_rata_cases = computed.1
