-- 01, Set-up: party codes.
-- Assumes nothing.
use Rattle.std.specs.Prelude.{ℕ, ◌+◌, ◌-◌, ◌*◌, ◌%◌, Bool, true, if◌then◌else◌, ◌&&◌, not, List, [], ◌∷◌, nat_lt, ◌==◌, length, get_or, take}
use Rattle.rules.specs.Basics.{between}

-- the value of a character: 0-9, A-Z, "-"; 37 for what is none
unfoldable pub char_value : ℕ → ℕ
char_value c = if between 48 57 c then c - 48 else if between 65 90 c then c - 55 else if c == 45 then 36 else 37

unfoldable pub all_chars : List ℕ → Bool
all_chars [] = true
all_chars (c ∷ cs) = nat_lt (char_value c) 37 && all_chars cs

-- the values times the weights w, w - 1, ..
unfoldable pub weighted : ℕ → List ℕ → ℕ
weighted w [] = 0
weighted w (c ∷ cs) = w * char_value c + weighted (w - 1) cs

-- S: of the first fifteen characters, with the weights 16 down to 2
abbrev pub weighted_sum : List ℕ → ℕ
weighted_sum code = weighted 16 (take 15 code)

-- 16 characters, the third X, the last as the others demand and never "-"
unfoldable pub is_code : List ℕ → Bool
is_code code =
    length code == 16 && all_chars code && get_or code 2 0 == 88
    && char_value (get_or code 15 0) == (36 - (weighted_sum code - 1) % 37)
    && not (char_value (get_or code 15 0) == 36)
