-- What is left to show ends what is written, as the whole line would.
use Rattle.std.proofs.Common.{List, ℕ, Option, length}
use Rattle.std.specs.Io.KnownBytes.{Appends}
use Rattle.rehearse_words.specs.Texts.{shown}
use Rattle.rehearse_words.proofs.write_shown.Given as goal

abbrev pub invariant-loop-after : goal.invariant-loop-after
invariant-loop-after g l =
    (end : Option (List ℕ)) → Appends (g.W.Write.contents l.out) end (shown l.rest) → Appends (g.W.Write.contents l.fn.out) end (shown l.fn.line)

abbrev pub decreases-loop-after : goal.decreases-loop-after
decreases-loop-after g l = length l.rest
