-- The day of a date.
-- Assumes nothing.
use Rattle.std.specs.Prelude.{Option, Some, None, if◌then◌else◌}
use Rattle.rules.specs.Calendar.{is_date, weekday_of, hours_of}
use Rattle.calendar.specs.declared.Date.{Date}
use Rattle.day.specs.declared.Day.{Day}

-- 01, Day and clock: the count of hours and the weekday of a date that is there
abbrev pub day_there : Date → Option Day
day_there date = if is_date date.year date.month date.day then Some (record { hours = hours_of date.year date.month date.day; weekday = weekday_of date.year date.month date.day }) else None
