-- What the calendar comes to: its days follow each other, its last Sundays are what their name says, and every opening has a day that 01 knows.
-- Assumes nothing.
use Rattle.std.specs.Prelude.{ℕ, ◌+◌, ◌*◌, ◌≤◌, ◌≡◌, true, false, ◌⊎◌}
use Rattle.rules.specs.Calendar.{days_in, is_date, days_of_years, days_since, weekday_of, last_sunday}
use Rattle.rules.specs.Book.{Day, NoDate, On}
use Rattle.rules.specs.Opening.{opening}

-- the days are counted from 1 January 2000 on, with no day left out or counted twice; 400 years are whole weeks
pub record DaysInOrder : Type 0 where
  pub first : days_since 2000 1 1 ≡ 0
  pub next_day : (y m d : ℕ) → 1 ≤ d → days_since y m (d + 1) ≡ days_since y m d + 1
  pub next_month : (y m : ℕ) → 1 ≤ m → days_since y (m + 1) 1 ≡ days_since y m (days_in y m) + 1
  pub next_year : (y : ℕ) → 2000 ≤ y → days_since (y + 1) 1 1 ≡ days_since y 12 31 + 1
  pub cycle : days_of_years 400 ≡ 20871 * 7

-- d is a Sunday of the month's last seven days, for a month of 31
pub record IsLastSunday (y m d : ℕ) : Type 0 where
  pub from : 25 ≤ d
  pub to : d ≤ 31
  pub sunday : weekday_of y m d ≡ 7

-- exactly one day of the month is
pub record OneLastSunday : Type 0 where
  pub is_last : (y m : ℕ) → IsLastSunday y m (last_sunday y m)
  pub only_last : (y m d : ℕ) → IsLastSunday y m d → d ≡ last_sunday y m

-- 01, Day and clock: 23, 24 or 25 hours, Monday 1 to Sunday 7, and a Tuesday has 24 hours: what 01 refused with 2 where it fails
pub record KnownDay (day : Day) : Type 0 where
  pub hours_known : (day.hours ≡ 23) ⊎ ((day.hours ≡ 24) ⊎ (day.hours ≡ 25))
  pub weekday_from : 1 ≤ day.weekday
  pub weekday_to : day.weekday ≤ 7
  pub tuesday : day.weekday ≡ 2 → day.hours ≡ 24

-- every opening, granted or refused, hands back a book of such a day; it has the date asked for, and none where it is refused
pub record OpenedDays : Type 0 where
  pub known : (y m d : ℕ) → KnownDay (opening y m d).book.day
  pub dated : (y m d : ℕ) → is_date y m d ≡ true → (opening y m d).book.day.date ≡ On y m d
  pub undated : (y m d : ℕ) → is_date y m d ≡ false → (opening y m d).book.day.date ≡ NoDate
