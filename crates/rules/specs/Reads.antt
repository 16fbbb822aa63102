-- 01, the reads: they change nothing, and answer what they name, or zeros where refused. Both details are 0.
-- Assumes nothing.
use Rattle.std.specs.Prelude.{ℕ, Bool, false, if◌then◌else◌, ◌||◌, not, List, ◌==◌}
use Rattle.rules.specs.Basics.{no_mw, five}
use Rattle.rules.specs.Book.{Right, Book, of_profile, right, left_at, shortfall_at}
use Rattle.rules.specs.Calls.{Reply, no_details}
use Rattle.rules.specs.Nominations.{pair_taken, pair_of, confirmed_at}
use Rattle.rules.specs.Refusals.{order, first_of, direction_unknown, profile_unknown, right_unknown, hour_unknown, is_matched}

-- ---- capacity left, and with it the shortfall (02, S-2)

pub record LeftReply : Type 0 where
  pub reply : Reply
  pub left : ℕ
  pub shortfall : ℕ

abbrev pub left_reply : ℕ → ℕ → ℕ → LeftReply
left_reply n left shortfall = record { reply = no_details n; left = if n == 0 then left else 0; shortfall = if n == 0 then shortfall else 0 }

unfoldable pub direction_read_refuses : Book → ℕ → ℕ → ℕ → Bool
direction_read_refuses b d hour n = if n == 6 then direction_unknown b d || hour_unknown b hour else false

unfoldable pub read_direction : Book → ℕ → ℕ → LeftReply
read_direction b d hour = left_reply (first_of (direction_read_refuses b d hour) order) (left_at b d hour) (shortfall_at b d hour)

unfoldable pub profile_read_refuses : Book → ℕ → ℕ → ℕ → Bool
profile_read_refuses b p hour n = if n == 6 then profile_unknown b p || hour_unknown b hour else false

unfoldable pub read_profile : Book → ℕ → ℕ → LeftReply
read_profile b p hour = left_reply (first_of (profile_read_refuses b p hour) order) (left_at b (of_profile p) hour) (shortfall_at b (of_profile p) hour)

-- ---- a right

pub record RightReply : Type 0 where
  pub reply : Reply
  pub right : Right

unfoldable pub right_read_refuses : Book → ℕ → ℕ → Bool
right_read_refuses b r n = if n == 6 then right_unknown b r else false

-- what stands for a right that is not there is all zeros
unfoldable pub read_right : Book → ℕ → RightReply
read_right b r = record { reply = no_details (first_of (right_read_refuses b r) order); right = right b.rights r }

-- ---- confirmed MW of a pair, by right, out party and in party

pub record ConfirmedReply : Type 0 where
  pub reply : Reply
  pub mw : List ℕ

abbrev pub confirmed_reply : ℕ → List ℕ → ConfirmedReply
confirmed_reply n mw = record { reply = no_details n; mw = if n == 0 then mw else no_mw }

-- 12: before the matching of the right's direction and session
unfoldable pub confirmed_read_refuses : Book → ℕ → ℕ → ℕ → ℕ → Bool
confirmed_read_refuses b r o i n =
    if n == 6 then right_unknown b r || not (pair_taken r o i b.pairs) else if n == 12 then not (is_matched b.matched (right b.rights r).direction (right b.rights r).session) else false

unfoldable pub read_confirmed : Book → ℕ → ℕ → ℕ → ConfirmedReply
read_confirmed b r o i =
    confirmed_reply (first_of (confirmed_read_refuses b r o i) order) (five (λ k. confirmed_at b.rights b.pairs k (pair_of r o i b.pairs)))
