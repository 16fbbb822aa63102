-- What the parts of the reader and the writer do.
-- Assumes nothing.
use Rattle.std.specs.Prelude.{ℕ, ◌+◌, ◌≤◌, ◌≡◌, Bool, ◌||◌, List, nat_lt, length, get_or}
use Rattle.rules.specs.Records.{widths, kind_at, body, map_at, fields_in, end_in}
use Rattle.fields.specs.Fields.{map_refused}
use Rattle.record.specs.declared.Found.{Found}

-- the map and the fields of the bytes, and the position past them
pub record Finds (s : List ℕ) (r : Found) : Type 0 where
  pub map_found : r.map ≡ map_at s
  pub values_found : r.fields.0 ≡ fields_in s
  pub end_found : r.end ≡ end_in s

-- the reader's tests, of what was found in bytes of a length
abbrev pub refuses_found : Found → ℕ → Bool
refuses_found f n = nat_lt n 2 || nat_lt n f.end || map_refused f.map f.fields.0

-- the length of the record of these fields, which is not large
pub record Length (vs : List ℕ) (r : ℕ) : Type 0 where
  pub bytes : r ≡ 2 + length (body (kind_at (get_or vs 0 0)) 0 widths vs)
  pub few : r ≤ 62
