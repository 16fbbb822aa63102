-- The read of a right answers what the rules' read answers.
-- Assumes nothing.
use Rattle.std.proofs.Common.{◌≡◌, ℕ, Option, Some, None, refl}
use lib.ListN.{get_or-eq_default}
use Rattle.std.specs.Option.{ok_or}
use borrow.Author.Tests.{leb-true}
use Rattle.rules.specs.Basics.{no_mw}
use Rattle.rules.specs.Book.{Book}
use Rattle.rules.specs.Refusals.{order, first_of}
use Rattle.rules.specs.Reads.{right_read_refuses, read_right}
use Rattle.rules.specs.declared.Refusal.TheVariants.{Unknown}
use Rattle.answers.specs.Entries.{FindsRight}
use Rattle.answers.specs.Promises.{said_right}
use Rattle.answers.specs.declared.RightRead.{RightRead}

-- by what the search for the right finds
pub right_said : (b : Book) (r : ℕ) (x : Option RightRead) → FindsRight b r x → said_right (ok_or x Unknown) ≡ read_right b r
unfolding read_right right_read_refuses first_of order
right_said b r None e = rw (e, get_or-eq_default b.rights (record { holder = 0; direction = 0; session = 0; mw = no_mw }) {n = r} (leb-true _ _ e)) refl
right_said b r (Some x) e = rw (e.0, e.1) refl
