-- What decimal digits mean.
-- Assumes nothing.
use Rattle.std.specs.Prelude.{ℕ, ◌+◌, ◌-◌, ◌*◌, ◌≡◌, if◌then◌else◌, List, [], ◌∷◌, nat_lt, drop}
use Rattle.std.specs.Char.{is_ascii_digit}
use Rattle.std.specs.List.{prefix_len}

-- the number that begins with v and goes on with the digits at the front
unfoldable pub decimal_of : ℕ → List ℕ → ℕ
decimal_of v [] = v
decimal_of v (b ∷ bs) = if is_ascii_digit b then decimal_of (v * 10 + (b - 48)) bs else v

-- how many digits stand at the front
abbrev pub digits_in : List ℕ → ℕ
digits_in bs = prefix_len is_ascii_digit bs

-- 2^32 stands for any number that is as large or larger
abbrev pub capped : ℕ → ℕ
capped n = if nat_lt n 4294967296 then n else 4294967296

-- the number that stands at the front of a text, and what stands behind its digits
pub record Read (text : List ℕ) (value : ℕ) (rest : List ℕ) : Type 0 where
  pub number : value ≡ capped (decimal_of 0 text)
  pub past : rest ≡ drop (digits_in text) text
