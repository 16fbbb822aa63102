-- `without_return` meets its contract.
-- Assumes nothing.
use Rattle.std.proofs.Common.{◌≡◌, ◌≢◌, ℕ, List, [], ◌∷◌, ◌++◌, Option, None, Some, Bor, ap}
use Rattle.std.specs.Option.{MatchOption, unwrap_or}
use Rattle.std.proofs.lemmas.Bool.Decides.{Decides-eqb}
use Rattle.std.proofs.lemmas.Slice.Eq.{strip_suffix_is}
use Rattle.rehearse_text.proofs.input.without_return.Goals as goal

kept_whole : (line given : Bor (List ℕ)) (r : Option (Bor (List ℕ))) → given ≡ unwrap_or r line
    → MatchOption r ((front : List ℕ) → line.now ≢ front ++ 13 ∷ []) (λ x. line.now ≡ x.now ++ 13 ∷ [])
    → ((front : List ℕ) → line.now ≢ front ++ 13 ∷ []) → given.now ≡ line.now
kept_whole line given None e m none = ap (λ (b : Bor (List ℕ)). b.now) e
kept_whole line given (Some x) e m none = absurd (none x.now m)

pub returns-clause-whole : goal.returns-clause-whole
returns-clause-whole c =
    kept_whole c.args.line _ _ c.unwrap_or.ensures (strip_suffix_is Decides-eqb c.args.line.now (13 ∷ []) c.strip_suffix.result c.strip_suffix.ensures.cases)
