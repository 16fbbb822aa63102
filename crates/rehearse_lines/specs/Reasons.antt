-- Why a line has no answer, in words.
-- Assumes nothing.
use Rattle.std.specs.Prelude.{ℕ, nat_lt, if◌then◌else◌, List, [], ◌++◌, length, take}
use Rattle.std.specs.Char.{encode_utf8}
use Rattle.std.specs.List.{flat_map}
use lib.Chars.{codes}
use Rattle.rehearse_lines.specs.declared.marks.Mark.{Mark}
use Rattle.rehearse_lines.specs.declared.marks.Mark.TheVariants.{Word, Comma, Hyphen, Colon, Number, Mw, Directions, Code, DirectionOrProfile}
use Rattle.rehearse_lines.specs.declared.unfit.Wanted.{Wanted}
use Rattle.rehearse_lines.specs.declared.unfit.Wanted.TheVariants.{FirstWord, Mark as MarkWanted, Number as NumberWanted, LineEnd}
use Rattle.rehearse_lines.specs.declared.unfit.Unfit.{Unfit}
use Rattle.rehearse_lines.specs.declared.unfit.Unfit.TheVariants.{TooLong, TooLarge, Expects, Unopened}

abbrev pub mark_text : Mark → List ℕ
mark_text (Word word) = word.now
mark_text Comma = codes "a comma"
mark_text Hyphen = codes "a hyphen"
mark_text Colon = codes "a colon"
mark_text (Number width) = codes "a number"
mark_text Mw = codes "a number"
mark_text Directions = codes "a number"
mark_text Code = codes "a code of 16 characters"
mark_text DirectionOrProfile = codes "direction or profile"

abbrev pub wanted_text : Wanted → List ℕ
wanted_text FirstWord = codes "open, direction, profile, party, offer, bid, nominate, match, left, right or confirmed"
wanted_text (MarkWanted mark) = mark_text mark
wanted_text NumberWanted = codes "a number"
wanted_text LineEnd = codes "the end of the line"

-- of a number that is too large the first twenty digits
abbrev pub unfit_text : Unfit → List ℕ
unfit_text TooLong = codes "too long: a line has at most 200 bytes"
unfit_text (TooLarge digits) =
    codes "too large: " ++ (flat_map encode_utf8 (take 20 digits.now) ++ (if nat_lt 20 (length digits.now) then codes ".." else []))
unfit_text (Expects wanted) = codes "not understood: expected " ++ wanted_text wanted
unfit_text Unopened = codes "needs an open before it"
