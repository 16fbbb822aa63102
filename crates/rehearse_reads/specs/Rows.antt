-- The numbers of a reply, in their order: those that the rules give.
-- Assumes nothing.
use Rattle.std.specs.Prelude.{ℕ, List, [], ◌∷◌, Result, Ok, Err}
use Rattle.rules.specs.Said.{Answer, said}
use Rattle.rules.specs.declared.Refusal.{Refusal}
use Rattle.answers.specs.declared.LeftRead.{LeftRead}
use Rattle.answers.specs.declared.RightRead.{RightRead}
use Rattle.answers.specs.Promises.{said_left, said_right, said_confirmed}
use Rattle.rehearse_reads.specs.declared.Reply.{Reply}
use Rattle.rehearse_reads.specs.declared.Reply.TheVariants.{Opening, Call, Left, Right, Confirmed}

-- the number and both details
abbrev pub of_call : Answer → List ℕ
of_call a = (said a).number ∷ (said a).first ∷ (said a).second ∷ []

-- the number, left and shortfall
abbrev pub of_left : Result LeftRead Refusal → List ℕ
of_left r = (said_left r).reply.number ∷ (said_left r).left ∷ (said_left r).shortfall ∷ []

-- the number, holder, direction, session and MW
abbrev pub of_right : Result RightRead Refusal → List ℕ
of_right r = (said_right r).reply.number ∷ (said_right r).right.holder ∷ (said_right r).right.direction ∷ (said_right r).right.session ∷ (said_right r).right.mw

-- the number and the MW
abbrev pub of_confirmed : Result (List ℕ) Refusal → List ℕ
of_confirmed r = (said_confirmed r).reply.number ∷ (said_confirmed r).mw

abbrev pub numbers_of : Reply → List ℕ
numbers_of (Opening (Ok opened)) = of_call (Ok opened.0)
numbers_of (Opening (Err refusal)) = of_call (Err refusal)
numbers_of (Call kind a) = of_call a
numbers_of (Left r) = of_left r
numbers_of (Right r) = of_right r
numbers_of (Confirmed r) = of_confirmed r
