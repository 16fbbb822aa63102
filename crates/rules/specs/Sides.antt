-- 01, Nominations and matching: the two sides of a pair, by their numbers in a call.
-- Assumes nothing.
use Rattle.std.specs.Prelude.{ℕ, ◌<◌, ◌≡◌, Result, MatchResult}
use Rattle.rules.specs.declared.Refusal.{Refusal}
use Rattle.rules.specs.declared.Refusal.TheVariants.{Field}
use Rattle.rules.specs.declared.Side.{Side}
use Rattle.rules.specs.declared.Side.TheVariants.{Out, In}

-- the sender is the out party on side 0 and the in party on side 1
abbrev pub side_number : Side → ℕ
side_number Out = 0
side_number In = 1

-- a side by its number: any number above 1 is refused with 3
abbrev pub ReadsSide : ℕ → Result Side Refusal → Type 0
ReadsSide n r = MatchResult r (λ side. side_number side ≡ n) (λ e. (e ≡ Field) × (1 < n))
