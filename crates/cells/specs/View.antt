-- The book of the rules, read off any cells: a count past its table is read as a full one, hours other than 23 and 25 as 24, and numbers that are no date
-- as none.
-- Assumes nothing.
use Rattle.std.specs.Prelude.{ℕ, ◌+◌, ◌*◌, ◌%◌, ◌^◌, ◌≤◌, ◌<◌, min, ◌≡◌, Bool, if◌then◌else◌, not, List, ◌==◌, get_or, length}
use Rattle.rules.specs.Calendar.{is_date}
use Rattle.rules.specs.Book.{BookDate, NoDate, On, Day, Direction, Party, Right, Pair, Book, place, direction_limit, pair_limit, party_limit, profile_limit, right_limit}
use Rattle.cells.specs.Loops.{rows}
use Rattle.cells.specs.Layout.{CELLS, YEAR, MONTH, DAY, HOURS, WEEKDAY, CLOCK, STARTED, DIRECTIONS, PROFILES, PARTIES, OFFERED, GRANTED, MATCHED, RIGHTS, PAIRS}

-- cell number i, 0 past the last
abbrev pub cell : List ℕ → ℕ → ℕ
cell b i = get_or b i 0

-- cell number i of those from cell `at` on
unfoldable pub cell_from : List ℕ → ℕ → ℕ → ℕ
cell_from b at i = cell b (at + i)

-- n cells from cell `at` on
unfoldable pub part : List ℕ → ℕ → ℕ → List ℕ
part b at n = rows (cell_from b at) n 0

-- the count of a table with a limit
abbrev pub counted : List ℕ → ℕ → ℕ → ℕ
counted b at limit = min (cell b at) limit

-- row i of a table, as its cells
abbrev pub row_at : List ℕ → ℕ → ℕ → ℕ → List ℕ
row_at b at width i = part b (at + 1 + i * width) width

-- the rows of a table, each as its cells
unfoldable pub rows_in : List ℕ → ℕ → ℕ → ℕ → List (List ℕ)
rows_in b at width limit = rows (row_at b at width) (counted b at limit) 0

-- a row of the offers and of the granted MW, and an hour that some day has
pub record InHour (row hour : ℕ) : Type 0 where
  pub in_table : row < 32
  pub from : 1 ≤ hour
  pub to : hour ≤ 25

-- r is the place of a row's hour, which the table has
pub record Places (row hour r : ℕ) : Type 0 where
  pub place_is : r ≡ place row hour
  pub below : r < 800

-- what is known of any book's cells: their count, and that each is a number of 32 bits
pub record Cells (b : List ℕ) : Type 0 where
  pub count : length b ≡ CELLS
  pub each : (i : ℕ) → i < CELLS → cell b i < 2 ^ 32

-- ---- what cells hold, whatever they are: rows stand cell by cell, to be read beside `Layout`

-- a year, month and day that are no date are read as none
abbrev pub date_read : ℕ → ℕ → ℕ → BookDate
date_read y m d = if is_date y m d then On y m d else NoDate

unfoldable pub date_in : List ℕ → BookDate
date_in b = date_read (cell b YEAR) (cell b MONTH) (cell b DAY)

-- any count of hours but 23 and 25 is read as 24
abbrev pub hours_read : ℕ → ℕ
hours_read n = if n == 23 then 23 else if n == 25 then 25 else 24

unfoldable pub day_hours_in : List ℕ → ℕ
day_hours_in b = hours_read (cell b HOURS)

abbrev pub weekday_in : List ℕ → ℕ
weekday_in b = cell b WEEKDAY

abbrev pub day_in : List ℕ → Day
day_in b = record { date = date_in b; hours = day_hours_in b; weekday = weekday_in b }

-- a timed call was granted: any number but 0
abbrev pub started_in : List ℕ → Bool
started_in b = not (cell b STARTED == 0)

abbrev pub clock_in : List ℕ → ℕ
clock_in b = cell b CLOCK

-- a direction by the cells of its row
abbrev pub direction_read : List ℕ → Direction
direction_read row = record { out = get_or row 0 0; into = get_or row 1 0; model = get_or row 2 0 }

-- row i of the directions, and the table
abbrev pub direction_at : List ℕ → ℕ → Direction
direction_at b i =
    record { out = cell b (DIRECTIONS + 1 + i * 3); into = cell b (DIRECTIONS + 2 + i * 3); model = cell b (DIRECTIONS + 3 + i * 3) }

unfoldable pub directions_in : List ℕ → List Direction
directions_in b = rows (direction_at b) (counted b DIRECTIONS direction_limit) 0

-- the maps of the profiles
unfoldable pub profiles_in : List ℕ → List ℕ
profiles_in b = part b (PROFILES + 1) (counted b PROFILES profile_limit)

-- a party by the cells of its row
abbrev pub party_read : List ℕ → Party
party_read row = record { code = part row 0 16; access = get_or row 16 0 }

-- row i of the parties, and the table
unfoldable pub party_at : List ℕ → ℕ → Party
party_at b i = record { code = part b (PARTIES + 1 + i * 17) 16; access = cell b (PARTIES + 17 + i * 17) }

unfoldable pub parties_in : List ℕ → List Party
parties_in b = rows (party_at b) (counted b PARTIES party_limit) 0

-- offers, granted MW and matched sessions: 32 rows of 25 hours, 24 rows of 25 sessions
unfoldable pub offered_in : List ℕ → List ℕ
offered_in b = part b OFFERED 800

unfoldable pub granted_in : List ℕ → List ℕ
granted_in b = part b GRANTED 800

unfoldable pub matched_in : List ℕ → List ℕ
matched_in b = part b MATCHED 600

-- a right by the cells of its row; numbers of parties, directions and sessions are bytes
abbrev pub right_read : List ℕ → Right
right_read row = record { holder = get_or row 0 0 % 256; direction = get_or row 1 0 % 256; session = get_or row 2 0 % 256; mw = part row 3 5 }

-- row i of the rights, and the table; numbers of parties, directions and sessions are bytes
unfoldable pub right_at : List ℕ → ℕ → Right
right_at b i =
    record {
      holder = cell b (RIGHTS + 1 + i * 8) % 256;
      direction = cell b (RIGHTS + 2 + i * 8) % 256;
      session = cell b (RIGHTS + 3 + i * 8) % 256;
      mw = part b (RIGHTS + 4 + i * 8) 5;
    }

unfoldable pub rights_in : List ℕ → List Right
rights_in b = rows (right_at b) (counted b RIGHTS right_limit) 0

-- a pair by the cells of its row
abbrev pub pair_read : List ℕ → Pair
pair_read row = record { right = get_or row 0 0; out = get_or row 1 0; into = get_or row 2 0; out_mw = part row 3 5; into_mw = part row 8 5 }

-- row i of the pairs, and the table
unfoldable pub pair_at : List ℕ → ℕ → Pair
pair_at b i =
    record {
      right = cell b (PAIRS + 1 + i * 13);
      out = cell b (PAIRS + 2 + i * 13);
      into = cell b (PAIRS + 3 + i * 13);
      out_mw = part b (PAIRS + 4 + i * 13) 5;
      into_mw = part b (PAIRS + 9 + i * 13) 5;
    }

unfoldable pub pairs_in : List ℕ → List Pair
pairs_in b = rows (pair_at b) (counted b PAIRS pair_limit) 0

-- the book of the rules that the cells hold
unfoldable pub book_of : List ℕ → Book
book_of b =
    record {
      day = day_in b;
      started = started_in b;
      clock = clock_in b;
      directions = directions_in b;
      profiles = profiles_in b;
      parties = parties_in b;
      offered = offered_in b;
      granted = granted_in b;
      rights = rights_in b;
      pairs = pairs_in b;
      matched = matched_in b;
    }
