-- 01, The list of demand 3, for the program: each call is given the cells that the last one left, and nobody else writes them meanwhile.
-- Assumes nothing.
use Rattle.std.specs.Prelude.{ℕ, List, [], ◌∷◌}
use Rattle.rules.specs.Calls.{Call}
use Rattle.rules.specs.Said.{Answer}
use Rattle.answers.specs.Promises.{Answers}

-- the cells before, the calls with their answers, and the cells after; a step is what the public function of the call ensures
pub data Chain : List ℕ → List Call → List Answer → List ℕ → Type 0 where
  done : {b : List ℕ} → Chain b [] [] b
  next : {b b' last : List ℕ} {c : Call} {r : Answer} {cs : List Call} {rs : List Answer}
      → Answers b c r b' → Chain b' cs rs last → Chain b (c ∷ cs) (r ∷ rs) last
