-- `Counts` are written as `counts_text` says.
-- Assumes nothing.
use Rattle.rehearse_words.proofs.counts.CountsDisplay.fmt.Goals as goal

pub returns-clause-writes : goal.returns-clause-writes
returns-clause-writes g c = λ plain done. rw c.differ_word-differ.ensures at (c.write.ensures.writes plain done)
