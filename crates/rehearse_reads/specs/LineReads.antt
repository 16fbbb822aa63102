-- The read that a line makes: what it names are the numbers of the line in their order.
-- Assumes nothing.
use Rattle.std.specs.Prelude.{ℕ, List}
use Rattle.answers.specs.Promises.{ReadsDirection, ReadsProfile, ReadsRight, ReadsConfirmed}
use Rattle.rehearse_lines.specs.declared.kinds.ReadKind.{ReadKind}
use Rattle.rehearse_lines.specs.declared.kinds.ReadKind.TheVariants.{Left as LeftLine, Right as RightLine, Confirmed as ConfirmedLine}
use Rattle.rehearse_lines.specs.declared.kinds.CapacityKind.TheVariants.{Direction as OfDirection, Profile as OfProfile}
use Rattle.rehearse_reads.specs.declared.Reply.{Reply}
use Rattle.rehearse_reads.specs.declared.Reply.TheVariants.{Left, Right, Confirmed}
use Rattle.rehearse_numbers.specs.Fields.{byte_at, two_at}

-- direction, hour; profile, hour; right; right, out party, in party
abbrev pub ReadsLine : List ℕ → ReadKind → List ℕ → Reply → Type 0
ReadsLine cells (LeftLine OfDirection) given (Left r) = ReadsDirection cells (byte_at given 0) (byte_at given 1) r
ReadsLine cells (LeftLine OfProfile) given (Left r) = ReadsProfile cells (byte_at given 0) (byte_at given 1) r
ReadsLine cells RightLine given (Right r) = ReadsRight cells (two_at given 0) r
ReadsLine cells ConfirmedLine given (Confirmed r) = ReadsConfirmed cells (two_at given 0) (byte_at given 1) (byte_at given 2) r
ReadsLine _ _ _ _ = ⊥
