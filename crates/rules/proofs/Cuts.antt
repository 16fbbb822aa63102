-- No offer is too low.
-- Assumes nothing.
use borrow.Author.Tests.{le-ltb}
use Rattle.rules.specs.Refusals.{order, first_of, field, setup_shut, clock, unknown, taken, timing_of, wrong_hours, no_access, not_owner, cycle, full, shortage_of, refuses}
use Rattle.rules.specs.Cuts.{NoneTooLow}

pub none_too_low : NoneTooLow
unfolding order first_of field setup_shut clock unknown taken timing_of wrong_hours no_access not_owner cycle full shortage_of refuses
none_too_low =
    record {
      of_direction = λ b time d hour mw other l m. rw (le-ltb 9999 mw l, le-ltb 9999 other m);
      of_profile = λ b time p hour mw other l m. rw (le-ltb 9999 mw l, le-ltb 9999 other m);
    }
