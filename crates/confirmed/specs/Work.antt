-- What the private workers of the read of confirmed MW find.
-- Assumes nothing.
use Rattle.std.specs.Prelude.{ℕ, List, get_or}
use Rattle.rules.specs.Nominations.{confirmed_of}

-- 01, Nominations and matching: the confirmed MW in hour k, by the right's MW, the sums over the right and the pair's lower sides
abbrev pub confirmed_in : List ℕ → List ℕ → List ℕ → ℕ → ℕ
confirmed_in held totals lower k = confirmed_of (get_or held k 0) (get_or totals k 0) (get_or lower k 0)
