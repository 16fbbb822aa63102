-- `reads::left_of` meets its contract.
-- Assumes nothing.
use mathlib.Core.Path.{subst}
use Rattle.std.proofs.lemmas.Result.{err_from_is_err_and}
use Rattle.cells.specs.View.{book_of}
use Rattle.answers.specs.Capacities.{Finds}
use Rattle.answers.proofs.Laws.{refused_with}
use Rattle.reads.proofs.LeftReads.{reads_left, unknown_read, known_read}
use Rattle.reads.proofs.left_of.Goals as goal

pub returns-in_err-place : goal.returns-in_err-place
returns-in_err-place c = let a = c.args in
    let p = err_from_is_err_and c.from_residual.result c.from_residual.ensures.1 in
    let none = c.in_err-place.ensures in
    let missing = subst (Finds (book_of a.book.now) a.capacity a.hour) none.ok_part c.place_in.ensures in
    rw (p.1, p.2, refused_with _ _ _ none.value none.ok_part) (reads_left a.book.now a.capacity a.hour.0 _ (unknown_read a.book.now a.capacity a.hour.0 missing))

pub returns : goal.returns
returns c = let a = c.args in
    let found = subst (Finds (book_of a.book.now) a.capacity a.hour) c.in_ok-place.ensures.ok_part c.place_in.ensures in
    reads_left a.book.now a.capacity a.hour.0 _ (rw (c.left_read.ensures, found.1.0, found.1.1) (known_read a.book.now a.capacity a.hour.0 found.0))
