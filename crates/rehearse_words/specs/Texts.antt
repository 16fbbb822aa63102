-- What is printed of a line.
-- Assumes nothing.
use Rattle.std.specs.Prelude.{ℕ, Bool, false, not, ◌&&◌, ◌==◌, nat_le, if◌then◌else◌, List, [], ◌∷◌, ◌++◌, map}
use Rattle.std.specs.Fmt.{decimal}
use Rattle.std.specs.Str.{bytes_eq}
use lib.Chars.{codes}
use Rattle.rehearse_text.specs.Rows.{row_text}
use Rattle.rehearse_lines.specs.declared.unfit.Unfit.{Unfit}
use Rattle.rehearse_lines.specs.declared.unfit.Unfit.TheVariants.{TooLong}
use Rattle.rehearse_lines.specs.Reasons.{unfit_text}
use Rattle.rehearse_reads.specs.declared.Reply.{Reply}
use Rattle.rehearse_reads.specs.Rows.{numbers_of}
use Rattle.rehearse_words.specs.declared.counts.Counts.{Counts}
use Rattle.rehearse_words.specs.Words.{reply_text}

abbrev pub is_printable : ℕ → Bool
is_printable b = nat_le 32 b && nat_le b 126

-- a byte that is no printable ASCII as a question mark
abbrev pub shown : List ℕ → List ℕ
shown line = map (λ b. if is_printable b then b else 63) line

-- numbers were expected, and these are others
abbrev pub is_other : List ℕ → List ℕ → Bool
is_other [] numbers = false
is_other (n ∷ expected) numbers = not (bytes_eq (n ∷ expected) numbers)

-- what stands behind numbers that are others than were expected
abbrev pub mark_text : Bool → List ℕ
mark_text differs = if differs then codes "  <== differs" else []

-- the line, the numbers, the words, and the mark
abbrev pub answer_line : List ℕ → List ℕ → Reply → List ℕ
answer_line line expected reply =
    shown line ++ (codes " -> " ++ (row_text (numbers_of reply) ++ (codes "  " ++ (reply_text reply
    ++ (mark_text (is_other expected (numbers_of reply)) ++ (10 ∷ []))))))

-- the reason why a line has no answer, behind the line, where it isn't too long
abbrev pub unfit_line : List ℕ → Unfit → List ℕ
unfit_line line TooLong = codes "-> " ++ (unfit_text TooLong ++ (10 ∷ []))
unfit_line line unfit = shown line ++ (codes " -> " ++ (unfit_text unfit ++ (10 ∷ [])))

-- of one line and of another count of lines
abbrev pub differ_text : ℕ → List ℕ
differ_text lines = if lines == 1 then codes "differs" else codes "differ"

-- the count of the lines
abbrev pub counts_text : Counts → List ℕ
counts_text counts =
    decimal counts.answered ++ (codes " lines answered, " ++ (decimal counts.differing ++ (codes " " ++ (differ_text counts.differing
    ++ (codes " from what was expected, " ++ (decimal counts.not_understood ++ codes " not understood"))))))
