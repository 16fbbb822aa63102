-- What the tables of fields and kinds say, and what the types of a call's fields do.
-- Assumes nothing.
use Rattle.std.specs.Prelude.{ℕ, zero, suc, ◌<◌, ◌≤◌, ◌^◌, ◌≡◌, Bool, ◌||◌, not, List, [], ◌∷◌, ◌==◌, length, get_or}
use Rattle.rules.specs.Basics.{bit, map_of, has}
use Rattle.rules.specs.Records.{Kind, widths, fields_of, is_kind, map_for, taking}
use Rattle.rules.specs.declared.CallRecord.{CallRecord}
use Rattle.fields.specs.declared.KindMaps.{KindMaps}

-- each value fits the width of its field
abbrev pub FieldsFit : List ℕ → Type 0
FieldsFit vs = (i : ℕ) → get_or vs i 0 < 256 ^ get_or widths i 0

-- what the types of a call's fields say of their values
pub record CallFits (c : CallRecord) : Type 0 where
  pub hours : length c.mw ≡ 5
  pub fields : FieldsFit (fields_of c)

-- for each of n bits from bit i on: it is among the numbers
unfoldable pub among_bits : ℕ → ℕ → List ℕ → List Bool
among_bits zero i ns = []
among_bits (suc n) i ns = has i ns ∷ among_bits n (suc i) ns

-- the bits of a kind as maps
abbrev pub kind_maps : Kind → KindMaps
kind_maps k = record { always = map_of (among_bits 15 0 k.always); mws = map_of (among_bits 15 0 k.mws) }

-- how many bytes a field takes, which is at most what a number of 32 bits has
pub record Size (field : ℕ) (stands : Bool) (r : ℕ) : Type 0 where
  pub taken : r ≡ taking (get_or widths field 0) stands
  pub few : r ≤ 4

-- the reader's tests of a map and the values that were read by it
abbrev pub map_refused : ℕ → List ℕ → Bool
map_refused map vs = bit map 15 || not (is_kind (get_or vs 0 0)) || not (map == map_for (get_or vs 0 0) vs)
