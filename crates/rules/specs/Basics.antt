-- Lists of MW, and maps of bits.
-- Assumes nothing.
use Rattle.std.specs.Prelude.{ℕ, ◌+◌, ◌-◌, ◌*◌, ◌/◌, ◌%◌, ◌^◌, Bool, true, false, if◌then◌else◌, ◌||◌, ◌&&◌, List, [], ◌∷◌, nat_le, nat_lt, ◌==◌, get_or}

-- from a to e
unfoldable pub between : ℕ → ℕ → ℕ → Bool
between a e x = nat_le a x && nat_le x e

-- the five MW of a call or a side that has none
abbrev pub no_mw : List ℕ
no_mw = 0 ∷ 0 ∷ 0 ∷ 0 ∷ 0 ∷ []

-- one value for each of the five hours
abbrev pub five : (ℕ → ℕ) → List ℕ
five f = f 0 ∷ f 1 ∷ f 2 ∷ f 3 ∷ f 4 ∷ []

-- bit number i of a map
unfoldable pub bit : ℕ → ℕ → Bool
bit map i = (map / 2 ^ i % 2) == 1

-- the map with the given bits, bit 0 first
unfoldable pub map_of : List Bool → ℕ
map_of [] = 0
map_of (p ∷ ps) = (if p then 1 else 0) + 2 * map_of ps

-- n is among the numbers
unfoldable pub has : ℕ → List ℕ → Bool
has n [] = false
has n (m ∷ ms) = m == n || has n ms

-- a value above the most is among them
unfoldable pub any_above : ℕ → List ℕ → Bool
any_above most [] = false
any_above most (x ∷ xs) = nat_lt most x || any_above most xs

-- the same numbers in the same order
unfoldable pub same : List ℕ → List ℕ → Bool
same [] [] = true
same [] (y ∷ ys) = false
same (x ∷ xs) [] = false
same (x ∷ xs) (y ∷ ys) = x == y && same xs ys

-- of MW that stand for hours from `first` on: those of an hour of the day
unfoldable pub mw_at : ℕ → List ℕ → ℕ → ℕ
mw_at first mw hour = if nat_le first hour then get_or mw (hour - first) 0 else 0
