-- What a call record does to a book, and what the functions over records promise.
-- Assumes nothing.
use Rattle.std.specs.Prelude.{ℕ, ◌≤◌, ◌<◌, ◌≡◌, true, false, if◌then◌else◌, List, [], ◌∷◌, ◌==◌, length, get_or, Ok, Err}
use Rattle.std.specs.declared.result.Result.{Result}
use Rattle.rules.specs.Book.{Book}
use Rattle.rules.specs.Calls.{Call, AddDirection, AddParty, OfferDirection, OfferProfile, Bid, Nominate, Match, Reply, is_grant}
use Rattle.rules.specs.Said.{Answer, said}
use Rattle.rules.specs.Run.{applied, run}
use Rattle.rules.specs.Opening.{opening}
use Rattle.rules.specs.Records.{is_kind, reading}
use Rattle.rules.specs.declared.Refusal.{Refusal}
use Rattle.rules.specs.declared.Refusal.TheVariants.{Record}
use Rattle.rules.specs.declared.CallRecord.{CallRecord}
use Rattle.cells.specs.View.{book_of}
use Rattle.answers.specs.Promises.{Answers}
use Rattle.dayrun_records.specs.declared.Taken.{Taken}

-- ---- the book that the program starts with

-- 10XCZ-CEPS-GRIDE
abbrev pub ceps : List ℕ
ceps = 49 ∷ 48 ∷ 88 ∷ 67 ∷ 90 ∷ 45 ∷ 67 ∷ 69 ∷ 80 ∷ 83 ∷ 45 ∷ 71 ∷ 82 ∷ 73 ∷ 68 ∷ 69 ∷ []

-- direction 0 from operator 0 to 4 in the one-hour model, and party 0 with access to operator 0
unfoldable pub start_calls : List Call
start_calls = AddDirection 0 4 1 ∷ AddParty ceps 1 ∷ []

-- 1 June 2015 with them
unfoldable pub start_book : Book
start_book = (run (opening 2015 6 1).book start_calls).book

-- ---- the call of a record

-- by its kind: 1 direction offer, 2 profile offer, 3 bid, 4 nomination, 5 matching
unfoldable pub call_made : CallRecord → Call
call_made c =
    if c.kind == 1 then OfferDirection c.time c.direction c.hour.0 (get_or c.mw 0 0)
    else if c.kind == 2 then OfferProfile c.time c.profile c.hour.0 (get_or c.mw 0 0)
    else if c.kind == 3 then Bid c.time c.party c.direction c.session.0 c.mw
    else if c.kind == 4 then Nominate c.time c.party c.other c.right c.side c.mw
    else Match c.time c.direction c.session.0

-- a record of a kind is answered as its call; one of no kind, which the reader never gives, is refused with 1
pub record AnswersRecord (before : List ℕ) (c : CallRecord) (r : Answer) (after : List ℕ) : Type 0 where
  pub made : is_kind c.kind ≡ true → Answers before (call_made c) r after
  pub none : is_kind c.kind ≡ false → (r ≡ Err Record) × (after ≡ before)

-- ---- the record at the front of bytes

-- the reply to a record, the book after it, and the record's length
pub record Outcome : Type 0 where
  pub reply : Reply
  pub book : Book
  pub length : ℕ

-- a record that can't be read leaves the book; else its call is applied
unfoldable pub at_front : Book → List ℕ → Outcome
at_front b s =
    let c : Call = call_made (reading s).call in
    if (reading s).reply.number == 0 then record { reply = (applied b c).reply; book = (applied b c).book; length = (reading s).length } else record { reply = (reading s).reply; book = b; length = 0 }

-- what is answered to a record, read or not
abbrev pub answer_of : Result Taken Refusal → Answer
answer_of (Ok taken) = taken.answer
answer_of (Err refusal) = Err refusal

-- how many bytes it takes: none where it can't be read
abbrev pub length_of : Result Taken Refusal → ℕ
length_of (Ok taken) = taken.length
length_of (Err refusal) = 0

-- a call record is taken from the front of the bytes
pub record Takes (before bytes : List ℕ) (r : Result Taken Refusal) (after : List ℕ) : Type 0 where
  pub reply : said (answer_of r) ≡ (at_front (book_of before) bytes).reply
  pub book : book_of after ≡ (at_front (book_of before) bytes).book
  pub size : length_of r ≡ (at_front (book_of before) bytes).length
  pub kept : is_grant (said (answer_of r)) ≡ false → after ≡ before
  pub within : length_of r ≤ length bytes
  pub fit : (i : ℕ) → get_or bytes i 0 < 256
