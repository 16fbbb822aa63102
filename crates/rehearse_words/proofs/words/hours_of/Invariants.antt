-- The hours so far whose marks stand.
use Rattle.std.proofs.Common.{◌≡◌, [], ◌∷◌, take}
use Rattle.std.specs.List.{filter}
use Rattle.rehearse_text.specs.Rows.{numbers_in}
use Rattle.rehearse_words.specs.Words.{is_marked}
use Rattle.rehearse_words.proofs.words.hours_of.Given as goal

abbrev pub invariant-loop-hour : goal.invariant-loop-hour
invariant-loop-hour l = numbers_in l.hours ≡ filter (is_marked l.marks) (take l.hour (1 ∷ 2 ∷ 3 ∷ 4 ∷ 5 ∷ []))
