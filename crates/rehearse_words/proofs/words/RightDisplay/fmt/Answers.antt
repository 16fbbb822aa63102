-- `Right` is written as `right_text` says.
-- Assumes nothing.
use Rattle.rehearse_words.proofs.words.RightDisplay.fmt.Goals as goal

pub returns-clause-writes : goal.returns-clause-writes
returns-clause-writes g c = λ plain done. rw c.row_of-mw.ensures at (c.write.ensures.writes plain done)
