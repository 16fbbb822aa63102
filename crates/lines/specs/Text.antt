-- Numbers in decimal, and the line of a reply.
-- Assumes nothing.
use Rattle.std.specs.Prelude.{ℕ, zero, suc, ◌+◌, ◌/◌, ◌%◌, if◌then◌else◌, List, [], ◌∷◌, ◌++◌, nat_lt}
use Rattle.rules.specs.Calls.{Reply}

-- no line has more bytes
abbrev pub line_size : ℕ
line_size = 84

-- the ASCII digits of a number, at most k of them
unfoldable pub digits_of : ℕ → ℕ → List ℕ
digits_of zero n = []
digits_of (suc k) n = (if nat_lt n 10 then [] else digits_of k (n / 10)) ++ ((48 + n % 10) ∷ [])

-- twenty digits hold any number of 64 bits
abbrev pub decimal : ℕ → List ℕ
decimal n = digits_of 20 n

abbrev pub space : ℕ
space = 32

abbrev pub newline : ℕ
newline = 10

-- the position, the number and the two details, with a space between them
unfoldable pub line_of : ℕ → Reply → List ℕ
line_of k a =
    (decimal k ++ (space ∷ []))
    ++ ((decimal a.number ++ (space ∷ [])) ++ ((decimal a.first ++ (space ∷ [])) ++ (decimal a.second ++ (newline ∷ []))))
