-- One call on a book, and a list of calls.
-- Assumes nothing.
use Rattle.std.specs.Prelude.{if◌then◌else◌, List, [], ◌∷◌, ◌==◌}
use Rattle.rules.specs.Book.{Book}
use Rattle.rules.specs.Calls.{Call, Reply}
use Rattle.rules.specs.Refusals.{number}
use Rattle.rules.specs.Effects.{effect}
use Rattle.rules.specs.Details.{detail, refusal}

-- the reply to a call, and the book after it
pub record Step : Type 0 where
  pub reply : Reply
  pub book : Book

-- a refused call leaves the book as it is
unfoldable pub applied : Book → Call → Step
applied b c =
    if number b c == 0 then record { reply = record { number = 0; first = detail b c; second = 0 }; book = effect b c } else record { reply = refusal b c (number b c); book = b }

-- the replies to a list of calls, and the book after it
pub record Run : Type 0 where
  pub replies : List Reply
  pub book : Book

-- each call is given the book that the last one returned
unfoldable pub run : Book → List Call → Run
run b [] = record { replies = []; book = b }
run b (c ∷ cs) =
    record {
      replies = (applied b c).reply ∷ (run (applied b c).book cs).replies;
      book = (run (applied b c).book cs).book;
    }
