-- What a read of the input brings.
-- Assumes nothing.
use Rattle.std.specs.Prelude.{ℕ, ◌<◌, ◌≤◌, ◌≡◌, List, ◌++◌, length, take}

-- a read into a part of the buffer, which has room for a byte at least, put bytes at its front; they follow those that were unread
pub record Brings (before : List ℕ) (count : ℕ) (after : List ℕ) : Type 0 where
  pub part : List ℕ
  pub room : 0 < length part
  pub some : count ≤ length part
  pub behind : after ≡ before ++ take count part
