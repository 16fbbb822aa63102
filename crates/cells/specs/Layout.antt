-- Where the parts of a book stand in its cells: each ends where the next begins. A table's count stands just before its rows.
-- Assumes nothing.
use Rattle.std.specs.Prelude.{ℕ}

-- the date of the day: year, month and day of the month; numbers that are no date where it has none
abbrev pub YEAR : ℕ
YEAR = 0

abbrev pub MONTH : ℕ
MONTH = 1

abbrev pub DAY : ℕ
DAY = 2

-- the count of hours of the day
abbrev pub HOURS : ℕ
HOURS = 3

-- Monday 1 to Sunday 7
abbrev pub WEEKDAY : ℕ
WEEKDAY = 4

-- the time of the latest granted timed call
abbrev pub CLOCK : ℕ
CLOCK = 5

-- not 0 after a granted timed call
abbrev pub STARTED : ℕ
STARTED = 6

-- a count, and 24 rows of 3: out operator, in operator, model
abbrev pub DIRECTIONS : ℕ
DIRECTIONS = 7

-- a count, and 8 maps
abbrev pub PROFILES : ℕ
PROFILES = 80

-- a count, and 64 rows of 17: the 16 bytes of the code, access map
abbrev pub PARTIES : ℕ
PARTIES = 89

-- 32 rows of 25 hours: rows 0 to 23 for the directions, 24 to 31 for the profiles
abbrev pub OFFERED : ℕ
OFFERED = 1178

-- rows as those of the offers
abbrev pub GRANTED : ℕ
GRANTED = 1978

-- 24 rows of 25 sessions
abbrev pub MATCHED : ℕ
MATCHED = 2778

-- a count, and 512 rows of 8: holder, direction, session, five MW
abbrev pub RIGHTS : ℕ
RIGHTS = 3378

-- a count, and 512 rows of 13: right, out party, in party, five MW of the out side, five of the in side
abbrev pub PAIRS : ℕ
PAIRS = 7475

-- how many cells a book has
abbrev pub CELLS : ℕ
CELLS = 14132
