-- 01, the reads: both details of a granted read are 0.
-- Assumes nothing.
use Rattle.std.proofs.Common.{◌≡◌, ℕ, List, Ok, refl, sym, ap}
use Rattle.rules.specs.Calls.{no_details}
use Rattle.rules.specs.Reads.{LeftReply, RightReply, ConfirmedReply, read_direction, read_profile, read_right, read_confirmed}
use Rattle.cells.specs.View.{book_of}
use Rattle.answers.specs.Promises.{said_left, said_right, said_confirmed, ReadsDirection, ReadsProfile, ReadsRight, ReadsConfirmed}
use Rattle.answers.specs.declared.LeftRead.{LeftRead}
use Rattle.answers.specs.declared.RightRead.{RightRead}

left_said : (x : LeftRead) → (said_left (Ok x)).reply ≡ no_details 0
left_said x = refl

right_said : (x : RightRead) → (said_right (Ok x)).reply ≡ no_details 0
right_said x = refl

confirmed_said : (mw : List ℕ) → (said_confirmed (Ok mw)).reply ≡ no_details 0
confirmed_said mw = refl

direction_granted : (b : List ℕ) (d hour : ℕ) (x : LeftRead) → ReadsDirection b d hour (Ok x) → (read_direction (book_of b) d hour).reply ≡ no_details 0
direction_granted b d hour x r = sym (ap (λ (y : LeftReply). y.reply) r.reply)

profile_granted : (b : List ℕ) (p hour : ℕ) (x : LeftRead) → ReadsProfile b p hour (Ok x) → (read_profile (book_of b) p hour).reply ≡ no_details 0
profile_granted b p hour x r = sym (ap (λ (y : LeftReply). y.reply) r.reply)

right_granted : (b : List ℕ) (n : ℕ) (x : RightRead) → ReadsRight b n (Ok x) → (read_right (book_of b) n).reply ≡ no_details 0
right_granted b n x r = sym (ap (λ (y : RightReply). y.reply) r.reply)

confirmed_granted : (b : List ℕ) (n out into : ℕ) (mw : List ℕ) → ReadsConfirmed b n out into (Ok mw) → (read_confirmed (book_of b) n out into).reply ≡ no_details 0
confirmed_granted b n out into mw r = sym (ap (λ (y : ConfirmedReply). y.reply) r.reply)
