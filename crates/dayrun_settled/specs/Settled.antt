-- When the bytes at hand settle the answer to a record, whatever follows them.
-- Assumes nothing.
use Rattle.std.specs.Prelude.{ℕ, ◌<◌, ◌≡◌, Bool, true, false, ◌||◌, not, List, ◌++◌, ◌==◌, length, get_or, drop, replicate}
use Rattle.rules.specs.Records.{map_for, bytes_of, reading}

-- the map and all fields that it has bits for: a bound that no record exceeds (a nomination of five hours, the longest, has 20 bytes)
abbrev pub longest : ℕ
longest = 24

-- the bytes begin with a record that the reader takes
abbrev pub is_read : List ℕ → Bool
is_read s = (reading s).reply.number == 0

-- the map of a kind's record without MW, and then bytes that are a kind, and no MW of 0
unfoldable pub pattern : ℕ → List ℕ
pattern kind = bytes_of 2 (map_for kind (replicate 15 0)) ++ replicate 22 kind

-- the bytes at hand, and those of the pattern that they lack
unfoldable pub completed : ℕ → List ℕ → List ℕ
completed kind s = s ++ drop (length s) (pattern kind)

-- completed for one of the kinds, they are read
unfoldable pub can_be_read : List ℕ → Bool
can_be_read s = is_read (completed 1 s) || is_read (completed 2 s) || is_read (completed 3 s) || is_read (completed 4 s) || is_read (completed 5 s)

-- a record is at hand, or none can be read
unfoldable pub settled : List ℕ → Bool
settled s = is_read s || not (can_be_read s)

-- each is a byte
abbrev pub Bytes : List ℕ → Type 0
Bytes s = (i : ℕ) → get_or s i 0 < 256

-- where it is settled, what follows changes nothing
abbrev pub SettledStays : Type 0
SettledStays = (s t : List ℕ) → Bytes s → settled s ≡ true → reading (s ++ t) ≡ reading s

-- the bytes alone are refused, and with some that follow they are read
pub record Open (s : List ℕ) : Type 0 where
  pub refused : is_read s ≡ false
  pub more : List ℕ
  pub bytes : Bytes more
  pub accepted : is_read (s ++ more) ≡ true

-- so it is where it isn't settled
abbrev pub UnsettledOpen : Type 0
UnsettledOpen = (s : List ℕ) → settled s ≡ false → Open s
