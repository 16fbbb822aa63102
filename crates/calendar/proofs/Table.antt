-- The table of Sundays: one test over all its entries, and what it says of each year.
-- Assumes nothing.
use Prim.Native.Nat.{ℕ, zero, suc, ◌+◌, ◌-◌, ◌*◌, ◌%◌, ◌≤◌, ◌<◌}
use mathlib.Core.Path.{◌≡◌, refl, ◌∙◌}
use mathlib.Core.Bool.{true, false≢true}
use mathlib.Core.List.{List, [], ◌∷◌}
use native.Mathlib.Omega.{arith}
use borrow.Author.Tests.{eqb-true}
use lib.Dec.{eqb}
use lib.ListN.{get_or}
use Rattle.rules.specs.Basics.{same}
use Rattle.rules.specs.Calendar.{days_of_months, days_since, weekday_of, last_sunday, last_sundays}
use Rattle.rules.proofs.Bools.{and_left, and_right}
use Rattle.calendar.proofs.Days.{year_days, years_closed}

-- ---- one test

-- the last Sunday of a month n years after 2000, with the years' days in closed form
unfoldable pub sunday_after : ℕ → ℕ → ℕ
sunday_after n m = 25 + (7 - (1 + (5 + (year_days n + days_of_months (2000 + n) (m - 1) + 24)) % 7))

sunday_after_lem : (n m : ℕ) → sunday_after n m ≡ last_sunday (2000 + n) m
unfolding sunday_after last_sunday weekday_of days_since
sunday_after_lem n m =
    let same-years : 2000 + n - 2000 ≡ n = omega arith in
    rw (same-years, years_closed n)

-- both Sundays of k years, from n years after 2000 on
unfoldable pub sundays_after : ℕ → ℕ → List ℕ
sundays_after zero n = []
sundays_after (suc k) n = sunday_after n 3 ∷ sunday_after n 10 ∷ sundays_after k (n + 1)

sundays_after_lem : (k n : ℕ) → sundays_after k n ≡ last_sundays k (2000 + n)
unfolding sundays_after last_sundays
sundays_after_lem zero n = refl
sundays_after_lem (suc k) n =
    let next : 2000 + (n + 1) ≡ 2000 + n + 1 = omega arith in
    rw (sunday_after_lem n 3, sunday_after_lem n 10, sundays_after_lem k (n + 1), next)

same_lists : (xs ys : List ℕ) → same xs ys ≡ true → xs ≡ ys
unfolding same
same_lists [] [] e = refl
same_lists [] (y ∷ ys) e = absurd (false≢true e)
same_lists (x ∷ xs) [] e = absurd (false≢true e)
same_lists (x ∷ xs) (y ∷ ys) e = rw (eqb-true x y (and_left (eqb x y) _ e), same_lists xs ys (and_right (eqb x y) _ e))

-- a table that passes the test is the rule's
pub passed : (table : List ℕ) → same table (sundays_after 400 0) ≡ true → table ≡ last_sundays 400 2000
passed table e = same_lists table (sundays_after 400 0) e ∙ sundays_after_lem 400 0

-- ---- each year

march_at : (n y k : ℕ) → k < n → get_or (last_sundays n y) (2 * k) 0 ≡ last_sunday (y + k) 3
unfolding last_sundays
march_at zero y k l = absurd (omega arith)
march_at (suc n) y zero l = let here : y + 0 ≡ y = omega arith in rw here
march_at (suc n) y (suc k) l =
    let place : 2 * suc k ≡ suc (suc (2 * k)) = omega arith in
    let year : y + suc k ≡ y + 1 + k = omega arith in
    rw (place, year) (march_at n (y + 1) k (omega arith))

october_at : (n y k : ℕ) → k < n → get_or (last_sundays n y) (2 * k + 1) 0 ≡ last_sunday (y + k) 10
unfolding last_sundays
october_at zero y k l = absurd (omega arith)
october_at (suc n) y zero l = let here : y + 0 ≡ y = omega arith in rw here
october_at (suc n) y (suc k) l =
    let place : 2 * suc k + 1 ≡ suc (suc (2 * k + 1)) = omega arith in
    let year : y + suc k ≡ y + 1 + k = omega arith in
    rw (place, year) (october_at n (y + 1) k (omega arith))

pub each_year : (table : List ℕ) → table ≡ last_sundays 400 2000 → (y : ℕ) → 2000 ≤ y → y ≤ 2399
    → (get_or table (2 * (y - 2000)) 0 ≡ last_sunday y 3) × (get_or table (2 * (y - 2000) + 1) 0 ≡ last_sunday y 10)
each_year table e y low high =
    let year : 2000 + (y - 2000) ≡ y = omega arith in
    let l : y - 2000 < 400 = omega arith in
    (rw (e, march_at 400 2000 (y - 2000) l, year), rw (e, october_at 400 2000 (y - 2000) l, year))
