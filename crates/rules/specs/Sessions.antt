-- 01, Sessions: of a day with n hours (23, 24 or 25), in the one-hour model (model 1) and the four-hour model (model 4).
-- These definitions alone turn a session's number into hours of the day, and back.
-- Assumes nothing.
use Rattle.std.specs.Prelude.{ℕ, ◌+◌, ◌-◌, ◌*◌, ◌/◌, Bool, if◌then◌else◌, ◌&&◌, nat_le, nat_lt, ◌==◌}

-- the session is there: one for each hour, or six
unfoldable pub session_there : ℕ → ℕ → ℕ → Bool
session_there n model session = nat_lt 0 session && nat_le session (if model == 1 then n else 6)

-- a session's first hour
unfoldable pub first_hour : ℕ → ℕ → ℕ → ℕ
first_hour n model session = if model == 1 then session else if nat_le session 1 then 1 else 1 + 4 * (session - 1) + n - 24

-- how many hours a session has
unfoldable pub hours_in : ℕ → ℕ → ℕ → ℕ
hours_in n model session = if model == 1 then 1 else if nat_le session 1 then 4 + n - 24 else 4

-- the session that holds an hour: session 1, or one of those that follow, four hours each
unfoldable pub session_of : ℕ → ℕ → ℕ → ℕ
session_of n model hour = if model == 1 then hour else if nat_le hour (4 + n - 24) then 1 else 2 + (hour - (4 + n - 24) - 1) / 4

-- 0 for a session that is not there
unfoldable pub first_hour_there : ℕ → ℕ → ℕ → ℕ
first_hour_there n model session = if session_there n model session then first_hour n model session else 0
