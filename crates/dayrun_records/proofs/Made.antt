-- The call of a record, by its kind.
-- Assumes nothing.
use Prim.Native.Nat.{ℕ}
use mathlib.Core.Path.{◌≡◌, sym, ap, ◌∙◌}
use mathlib.Core.Bool.{true, true≢false}
use mathlib.Core.List.{List}
use Rattle.rules.specs.Records.{is_kind}
use Rattle.rules.specs.Said.{Answer}
use Rattle.rules.specs.declared.CallRecord.{CallRecord}
use Rattle.answers.specs.Promises.{Answers}
use Rattle.dayrun_records.specs.Records.{call_made, AnswersRecord}

pub answered : {b b' : List ℕ} {c : CallRecord} {r : Answer} (k : ℕ) → c.kind ≡ k → is_kind k ≡ true → Answers b (call_made (record c { kind = k })) r b'
    → AnswersRecord b c r b'
answered {c = c} k e t a =
    record { made = λ _. rw e a; none = λ f. absurd (true≢false (sym t ∙ ap is_kind (sym e) ∙ f)) }
