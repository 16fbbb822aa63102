-- `Unfit` is written as `unfit_text` says: a number of few digits.
-- Assumes nothing.
use Rattle.std.proofs.Common.{◌≡◌, ℕ, ◌≤◌, List, [], ◌++◌, length, take, nat_lt, false, if◌then◌else◌, sym, ap, arith, append-nil}
use Rattle.std.proofs.Output.{has_written_of_eq}
use Rattle.std.proofs.lemmas.List.{take_all}
use Rattle.std.proofs.lemmas.Grind.{common_steps}
use Rattle.std.specs.Char.{encode_utf8}
use Rattle.std.specs.List.{flat_map}
use lib.Chars.{codes}
use Rattle.rehearse_lines.proofs.unfit.UnfitDisplay.fmt.Goals as goal

few : (digits shown : List ℕ) (k : ℕ) → shown ≡ take 20 digits → length digits ≤ 20 → length shown ≤ k
    → flat_map encode_utf8 (take k shown) ≡ flat_map encode_utf8 (take 20 digits) ++ (if nat_lt 20 (length digits) then codes ".." else [])
few digits shown k e h end =
    let no_more : nat_lt 20 (length digits) ≡ false = grind arith in
    rw (take_all k shown end, e, no_more) (sym (append-nil (flat_map encode_utf8 (take 20 digits))))

pub returns-else-digits-gt-SHOWN-clause-writes : goal.returns-else-digits-gt-SHOWN-clause-writes
returns-else-digits-gt-SHOWN-clause-writes g c = λ plain done.
    let shown : c.unwrap_or-shown.result.now ≡ take 20 c.in-TooLarge.digits.now = grind (arith, common_steps) in
    let same = few _ _ c.loop-digit.digit-index shown c.if-digits-gt-SHOWN.false c.loop-digit-test.false in
    rw c.in-TooLarge.is
    (has_written_of_eq g.W.Write.write_str_gives _ _ _ _ (ap (λ (l : List ℕ). codes "too large: " ++ l) same) (c.loop-digit.invariant plain))
