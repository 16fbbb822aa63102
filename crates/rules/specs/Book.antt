-- The book of one day. A table is a list whose length is its count of entries.
-- Assumes nothing.
use Rattle.std.specs.Prelude.{ℕ, ◌+◌, ◌-◌, ◌*◌, Bool, false, if◌then◌else◌, List, [], nat_lt, ◌==◌, get_or, replicate}
use Rattle.rules.specs.Basics.{no_mw, bit}

-- the date of a day: year, month and day of the month; the book of a refused opening has none (02, S-3)
pub data BookDate : Type 0 where
  NoDate : BookDate
  On : ℕ → ℕ → ℕ → BookDate

-- 01, Day and clock: the delivery day of a book, with its count of hours and its weekday, Monday 1 to Sunday 7
pub record Day : Type 0 where
  pub date : BookDate
  pub hours : ℕ
  pub weekday : ℕ

-- out operator, in operator, model 1 or 4
pub record Direction : Type 0 where
  pub out : ℕ
  pub into : ℕ
  pub model : ℕ

-- code, and access map: bit o for operator o
pub record Party : Type 0 where
  pub code : List ℕ
  pub access : ℕ

-- holder, direction, session, and the MW of its five hours
pub record Right : Type 0 where
  pub holder : ℕ
  pub direction : ℕ
  pub session : ℕ
  pub mw : List ℕ

-- the nominations of an out party and an in party under a right; a side never sent has no MW
pub record Pair : Type 0 where
  pub right : ℕ
  pub out : ℕ
  pub into : ℕ
  pub out_mw : List ℕ
  pub into_mw : List ℕ

-- `started`: a timed call was granted; `clock` is the time of the latest. A profile is its map: bit d for direction d.
-- `offered` and `granted` have a row of 25 hours for each direction (rows 0 to 23) and each profile (rows 24 to 31): row r, hour h at `place r h`.
-- `matched` holds 1 at `flag d s` where session s of direction d was matched, else 0.
pub record Book : Type 0 where
  pub day : Day
  pub started : Bool
  pub clock : ℕ
  pub directions : List Direction
  pub profiles : List ℕ
  pub parties : List Party
  pub offered : List ℕ
  pub granted : List ℕ
  pub rights : List Right
  pub pairs : List Pair
  pub matched : List ℕ

-- how many entries the tables hold at most
abbrev pub direction_limit : ℕ
direction_limit = 24

abbrev pub profile_limit : ℕ
profile_limit = 8

abbrev pub party_limit : ℕ
party_limit = 64

abbrev pub right_limit : ℕ
right_limit = 512

abbrev pub pair_limit : ℕ
pair_limit = 512

-- where the MW of a row in an hour stand, and the flag of a direction's session
abbrev pub place : ℕ → ℕ → ℕ
place row hour = row * 25 + (hour - 1)

abbrev pub flag : ℕ → ℕ → ℕ
flag direction session = direction * 25 + (session - 1)

-- the row of profile p
abbrev pub of_profile : ℕ → ℕ
of_profile p = direction_limit + p

-- the row holds direction d: it is that of the direction, or of a profile with its bit
unfoldable pub holds : List ℕ → ℕ → ℕ → Bool
holds maps d row = if nat_lt row direction_limit then row == d else bit (get_or maps (row - direction_limit) 0) d

-- the book of a day, as opened
unfoldable pub opened : Day → Book
opened day =
    record {
      day = day;
      started = false;
      clock = 0;
      directions = [];
      profiles = [];
      parties = [];
      offered = replicate 800 0;
      granted = replicate 800 0;
      rights = [];
      pairs = [];
      matched = replicate 600 0;
    }

-- entries by number, and what stands for one that is not there
abbrev pub direction : List Direction → ℕ → Direction
direction ds d = get_or ds d (record { out = 0; into = 0; model = 0 })

abbrev pub party : List Party → ℕ → Party
party ps p = get_or ps p (record { code = []; access = 0 })

abbrev pub right : List Right → ℕ → Right
right rs r = get_or rs r (record { holder = 0; direction = 0; session = 0; mw = no_mw })

-- capacity left: the offer less the granted MW, 0 where they exceed it
abbrev pub left_at : Book → ℕ → ℕ → ℕ
left_at b row hour = get_or b.offered (place row hour) 0 - get_or b.granted (place row hour) 0

-- shortfall: by how much the granted MW exceed the offer, 0 where they don't (02, S-2)
abbrev pub shortfall_at : Book → ℕ → ℕ → ℕ
shortfall_at b row hour = get_or b.granted (place row hour) 0 - get_or b.offered (place row hour) 0

abbrev pub model_of : Book → ℕ → ℕ
model_of b d = (direction b.directions d).model
