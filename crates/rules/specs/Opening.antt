-- 01, Day and clock, and 02, S-3: a book is opened by date.
-- Assumes nothing.
use Rattle.std.specs.Prelude.{ℕ, Bool, false, if◌then◌else◌, not, ◌==◌}
use Rattle.rules.specs.Calendar.{is_date, weekday_of, hours_of}
use Rattle.rules.specs.Book.{Day, NoDate, On, opened}
use Rattle.rules.specs.Refusals.{order, first_of}
use Rattle.rules.specs.Run.{Step}

-- 17 date: it doesn't exist, or its year lies outside the cycle
unfoldable pub opening_refuses : ℕ → ℕ → ℕ → ℕ → Bool
opening_refuses y m d k = if k == 17 then not (is_date y m d) else false

-- the day of a date: weekday and count of hours follow from it
unfoldable pub day_of : ℕ → ℕ → ℕ → Day
day_of y m d = record { date = On y m d; hours = hours_of y m d; weekday = weekday_of y m d }

-- 01's Monday of 24 hours, which has no date
unfoldable pub undated_monday : Day
undated_monday = record { date = NoDate; hours = 24; weekday = 1 }

-- the day of the book that an opening hands back: that Monday where it is refused
unfoldable pub opened_day : ℕ → ℕ → ℕ → Day
opened_day y m d = if is_date y m d then day_of y m d else undated_monday

unfoldable pub opening : ℕ → ℕ → ℕ → Step
opening y m d =
    record {
      reply = record { number = first_of (opening_refuses y m d) order; first = 0; second = 0 };
      book = opened (opened_day y m d);
    }
