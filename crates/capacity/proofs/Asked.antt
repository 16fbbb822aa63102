-- The MW asked for in the hours of a session: the first of five.
-- Assumes nothing.
use Rattle.std.proofs.Common.{◌≡◌, ℕ, ◌≤◌, ◌<◌, List, length, take, get_or, arith}
use Rattle.std.proofs.lemmas.List.{get_or-take, length-take-le}

module _ (mw : List ℕ) (count : ℕ) (five : length mw ≡ 5) (few : count ≤ 5) where
  size : length (take count mw) ≡ count
  size = length-take-le count mw (omega arith)

  pub five_asked : length (take count mw) ≤ 5
  five_asked = let n = size in omega arith

  module _ {k : ℕ} where
    pub in_session : k < length (take count mw) → k < count
    in_session h = let n = size in omega arith

    pub past_session : length (take count mw) ≤ k → count ≤ k
    past_session h = let n = size in omega arith

    pub asked_is : k < length (take count mw) → get_or (take count mw) k 0 ≡ get_or mw k 0
    asked_is h = get_or-take count mw k 0 (in_session h)
