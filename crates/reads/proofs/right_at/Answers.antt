-- `reads::right_at` meets its contract.
-- Assumes nothing.
use Rattle.cells.specs.View.{book_of}
use Rattle.reads.proofs.RightReads.{right_said}
use Rattle.reads.proofs.right_at.Goals as goal

pub returns : goal.returns
returns c = record { reply = rw c.ok_or.ensures.value (right_said (book_of c.args.book.now) c.args.right c.right_in.result c.right_in.ensures) }
