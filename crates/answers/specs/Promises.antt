-- What the public calls promise, of the cells before and after: reply and book are those of the rules.
-- Assumes nothing.
use Rattle.std.specs.Prelude.{ℕ, ◌≡◌, false, List, ◌==◌, Result, Ok, Err}
use Rattle.rules.specs.Basics.{no_mw}
use Rattle.rules.specs.Book.{Book}
use Rattle.rules.specs.Calls.{Call, is_grant}
use Rattle.rules.specs.Said.{Answer, said_refusal, said}
use Rattle.rules.specs.Refusals.{number}
use Rattle.rules.specs.Details.{refusal}
use Rattle.rules.specs.Run.{applied}
use Rattle.rules.specs.Opening.{opening}
use Rattle.rules.specs.Reads.{LeftReply, read_direction, read_profile, RightReply, read_right, ConfirmedReply, read_confirmed}
use Rattle.rules.specs.declared.Refusal.{Refusal}
use Rattle.rules.specs.declared.Refusal.TheVariants.{TooEarly, TooLate}
use Rattle.rules.specs.declared.Timing.{Timing}
use Rattle.rules.specs.declared.Timing.TheVariants.{Early, Within, Late}
use Rattle.cells.specs.View.{book_of}
use Rattle.answers.specs.declared.LeftRead.{LeftRead}
use Rattle.answers.specs.declared.RightRead.{RightRead}

-- an opening by date hands back the book of the rules' opening, whatever the cells held
pub record Opens (y m d : ℕ) (r : Answer) (after : List ℕ) : Type 0 where
  pub reply : said r ≡ (opening y m d).reply
  pub book : book_of after ≡ (opening y m d).book

-- a call of the list of demand 3; refused, it leaves every cell as it was
pub record Answers (before : List ℕ) (c : Call) (r : Answer) (after : List ℕ) : Type 0 where
  pub reply : said r ≡ (applied (book_of before) c).reply
  pub book : book_of after ≡ (applied (book_of before) c).book
  pub kept : is_grant (said r) ≡ false → after ≡ before

-- a refusal is that of the rules
abbrev pub Refused : Book → Call → Refusal → Type 0
Refused b c r = ((number b c == 0) ≡ false) × (said_refusal r ≡ refusal b c (number b c))

-- what the tests of a call find, beside what they found on the way, is the number of the rules
abbrev pub Judged : {A : Type 0} → Book → Call → Result A Refusal → Type 0
Judged b c (Ok found) = number b c ≡ 0
Judged b c (Err r) = Refused b c r

-- what the window of a call finds
abbrev pub window_verdict : Timing → Result Unit Refusal
window_verdict Early = Err TooEarly
window_verdict Within = Ok tt
window_verdict Late = Err TooLate

-- ---- the reads

-- what a read of capacity left and shortfall says, as the rules write it: zeros where refused
abbrev pub said_left : Result LeftRead Refusal → LeftReply
said_left (Ok x) = record { reply = said (Ok 0); left = x.left; shortfall = x.shortfall }
said_left (Err r) = record { reply = said_refusal r; left = 0; shortfall = 0 }

-- capacity left and shortfall of a direction in an hour
pub record ReadsDirection (cells : List ℕ) (d hour : ℕ) (r : Result LeftRead Refusal) : Type 0 where
  pub reply : said_left r ≡ read_direction (book_of cells) d hour

-- capacity left and shortfall of a profile in an hour
pub record ReadsProfile (cells : List ℕ) (p hour : ℕ) (r : Result LeftRead Refusal) : Type 0 where
  pub reply : said_left r ≡ read_profile (book_of cells) p hour

-- a right with holder, direction, session and MW: zeros where refused
abbrev pub said_right : Result RightRead Refusal → RightReply
said_right (Ok x) =
    record {
      reply = said (Ok 0);
      right = record { holder = x.holder; direction = x.direction; session = x.session.0; mw = x.mw };
    }
said_right (Err r) = record { reply = said_refusal r; right = record { holder = 0; direction = 0; session = 0; mw = no_mw } }

-- a right by its number
pub record ReadsRight (cells : List ℕ) (right : ℕ) (r : Result RightRead Refusal) : Type 0 where
  pub reply : said_right r ≡ read_right (book_of cells) right

-- confirmed MW of a pair: zeros where refused
abbrev pub said_confirmed : Result (List ℕ) Refusal → ConfirmedReply
said_confirmed (Ok mw) = record { reply = said (Ok 0); mw = mw }
said_confirmed (Err r) = record { reply = said_refusal r; mw = no_mw }

-- the pair by right, out party and in party
pub record ReadsConfirmed (cells : List ℕ) (right out into : ℕ) (r : Result (List ℕ) Refusal) : Type 0 where
  pub reply : said_confirmed r ≡ read_confirmed (book_of cells) right out into
