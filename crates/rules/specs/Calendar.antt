-- 02, S-3: the Gregorian calendar of the years 2000 to 2399, one full cycle, and the hours of a day by Directive 2000/84/EC.
-- A date is a year y, a month m from 1 and a day d of the month.
-- Assumes nothing.
use Rattle.std.specs.Prelude.{ℕ, zero, suc, ◌+◌, ◌-◌, ◌%◌, Bool, if◌then◌else◌, ◌&&◌, ◌||◌, not, List, [], ◌∷◌, ◌==◌}
use Rattle.rules.specs.Basics.{between}

-- a leap year: every fourth, but of the full centuries only every fourth
unfoldable pub leap : ℕ → Bool
leap y = (y % 4) == 0 && (not ((y % 100) == 0) || (y % 400) == 0)

-- how many days a month has
unfoldable pub days_in : ℕ → ℕ → ℕ
days_in y m = if m == 2 then (if leap y then 29 else 28) else if m == 4 || m == 6 || m == 9 || m == 11 then 30 else 31

-- the year lies in the cycle, and the date exists
unfoldable pub is_date : ℕ → ℕ → ℕ → Bool
is_date y m d = between 2000 2399 y && between 1 12 m && between 1 (days_in y m) d

-- the days of the n years from 2000 on
unfoldable pub days_of_years : ℕ → ℕ
days_of_years zero = 0
days_of_years (suc n) = days_of_years n + (if leap (2000 + n) then 366 else 365)

-- the days of the first n months of a year
unfoldable pub days_of_months : ℕ → ℕ → ℕ
days_of_months y zero = 0
days_of_months y (suc n) = days_of_months y n + days_in y (suc n)

-- how many days a date lies after 1 January 2000
unfoldable pub days_since : ℕ → ℕ → ℕ → ℕ
days_since y m d = days_of_years (y - 2000) + days_of_months y (m - 1) + (d - 1)

-- Monday 1 to Sunday 7: 1 January 2000 was a Saturday, 6
unfoldable pub weekday_of : ℕ → ℕ → ℕ → ℕ
weekday_of y m d = 1 + (5 + days_since y m d) % 7

-- the last Sunday of a month of 31 days: from the 25th as many days on as its week still has
unfoldable pub last_sunday : ℕ → ℕ → ℕ
last_sunday y m = 25 + (7 - weekday_of y m 25)

-- the clock goes forward on the last Sunday of March, and back on that of October
unfoldable pub hours_of : ℕ → ℕ → ℕ → ℕ
hours_of y m d = if m == 3 && d == last_sunday y 3 then 23 else if m == 10 && d == last_sunday y 10 then 25 else 24

-- the table of both Sundays, those of a year side by side, for n years from the year y on
unfoldable pub last_sundays : ℕ → ℕ → List ℕ
last_sundays zero y = []
last_sundays (suc n) y = last_sunday y 3 ∷ last_sunday y 10 ∷ last_sundays n (y + 1)
