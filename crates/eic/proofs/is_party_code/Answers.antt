-- `eic::is_party_code` meets its contract: of sixteen characters, what is left to test is tested.
-- Assumes nothing.
use Rattle.std.proofs.Common.{arith}
use Rattle.std.proofs.lemmas.Bool.Decides.{nat_tests}
use Rattle.eic.proofs.Codes.{code_left}
use Rattle.eic.proofs.is_party_code.Goals as goal
use Rattle.eic.proofs.is_party_code.Goals.{then-code-eq-PARTY, else-code-eq-PARTY}

pub returns-then-from-check_value : goal.returns-then-from-check_value
returns-then-from-check_value c =
    let left = code_left c.args.code _ _ (omega arith) c.in-Some.ensures c.in-Some-char_value.ensures in
    elim c.if-code-eq-PARTY.branch [
      | then-code-eq-PARTY w ↦ grind (arith, nat_tests, left, w.check_value.ensures, w.from.ensures, w.value-is)
      | else-code-eq-PARTY w ↦ grind (arith, nat_tests, left, w.value-is)
    ]

pub returns-else-from-check_value : goal.returns-else-from-check_value
returns-else-from-check_value c =
    let left = code_left c.args.code _ _ (omega arith) c.in-Some.ensures c.in-Some-char_value.ensures in
    elim c.if-code-eq-PARTY.branch [
      | then-code-eq-PARTY w ↦ grind (arith, nat_tests, left, w.check_value.ensures, w.from.ensures, w.value-is)
      | else-code-eq-PARTY w ↦ grind (arith, nat_tests, left, w.value-is, w.if-code-eq-PARTY.false)
    ]
