-- 02, S-4: how little is lost where confirmed MW are rounded down, for any lower values under a right.
-- Assumes nothing.
use Rattle.std.specs.Prelude.{ℕ, ◌+◌, ◌-◌, ◌*◌, ◌≤◌, ◌<◌, ◌≡◌, List, map, sum, count_by, nat_lt}
use Rattle.rules.specs.Nominations.{confirmed_of}

-- c is m × R / T rounded down: c × T ≤ m × R < (c + 1) × T
pub record RoundedDown (R T m c : ℕ) : Type 0 where
  pub not_above : c * T ≤ m * R
  pub next_above : m * R < (c + 1) * T

-- how many lower values are above 0
abbrev pub count_above_zero : List ℕ → ℕ
count_above_zero ms = count_by (λ m. nat_lt 0 m) ms

-- the confirmed MW of each lower value, by 01's rule; T is the total of the lower values
abbrev pub confirmed_list : ℕ → List ℕ → List ℕ
confirmed_list R ms = map (λ m. confirmed_of R (sum ms) m) ms

pub record RoundingLosesLittle : Type 0 where
  -- of one lower value, where T is above the right: what is confirmed is rounded down
  pub rounded_down : (R T m : ℕ) → R < T → RoundedDown R T m (confirmed_of R T m)
  -- and only one number is: whoever rounds up or to the nearest, or gives one pair the remainder, breaks this bound where that changes a number
  pub one_value : (R T m c d : ℕ) → RoundedDown R T m c → RoundedDown R T m d → c ≡ d
  -- of all together: they are never above the right, and where T is, they fall short of it by less than the number of lower values above 0
  pub within : (R : ℕ) (ms : List ℕ) → sum (confirmed_list R ms) ≤ R
  pub little_lost : (R : ℕ) (ms : List ℕ) → R < sum ms → R - sum (confirmed_list R ms) < count_above_zero ms
  -- the bound `little_lost` alone lets pass whatever adds up to the right or more: the remainder given to one pair too
  pub nothing_lost : (R : ℕ) (ms cs : List ℕ) → R < sum ms → R ≤ sum cs → R - sum cs < count_above_zero ms
