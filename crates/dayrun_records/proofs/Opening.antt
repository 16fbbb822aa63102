-- The book that the program starts with, from the promises of the calls that open it.
-- Assumes nothing.
use Prim.Native.Nat.{ℕ}
use mathlib.Core.Path.{◌≡◌, ap, ◌∙◌}
use mathlib.Core.List.{List}
use Rattle.rules.specs.Book.{Book}
use Rattle.rules.specs.Calls.{AddDirection, AddParty}
use Rattle.rules.specs.Run.{applied, run}
use Rattle.rules.specs.Said.{Answer}
use Rattle.cells.specs.View.{book_of}
use Rattle.answers.specs.Promises.{Opens, Answers}
use Rattle.dayrun_records.specs.Records.{ceps, start_calls, start_book}

pub started : {b1 b2 b3 : List ℕ} {r1 r2 r3 : Answer} → Opens 2015 6 1 r1 b1 → Answers b1 (AddDirection 0 4 1) r2 b2 → Answers b2 (AddParty ceps 1) r3 b3
    → book_of b3 ≡ start_book
unfolding start_book start_calls run
started o d p =
    p.book ∙ ap (λ (b : Book). (applied b (AddParty ceps 1)).book) (d.book ∙ ap (λ (b : Book). (applied b (AddDirection 0 4 1)).book) o.book)
