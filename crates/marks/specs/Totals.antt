-- A side's totals under a right, and the marks of the hours in which they are above it.
-- Assumes nothing.
use Rattle.std.specs.Prelude.{ℕ, List, [], ◌∷◌, nat_lt, get_or}
use Rattle.rules.specs.Basics.{five, map_of}
use Rattle.rules.specs.Book.{Pair}
use Rattle.rules.specs.Nominations.{side_total}

-- 01, Nominations and matching: a side's total under right r, hour by hour
abbrev pub totals_of : ℕ → ℕ → List Pair → List ℕ
totals_of r side ps = five (λ k. side_total r side k ps)

-- 01, Nominations and matching, marks: bit 0 marks the first hour in which a side's total is above the MW held
unfoldable pub marks_of : List ℕ → ℕ → ℕ → List Pair → ℕ
marks_of held r side ps =
    map_of
    (nat_lt (get_or held 0 0) (side_total r side 0 ps)
    ∷ nat_lt (get_or held 1 0) (side_total r side 1 ps)
    ∷ nat_lt (get_or held 2 0) (side_total r side 2 ps)
    ∷ nat_lt (get_or held 3 0) (side_total r side 3 ps)
    ∷ nat_lt (get_or held 4 0) (side_total r side 4 ps)
    ∷ [])
