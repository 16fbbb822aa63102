-- 02, S-2: an offer may fall under what is granted.
-- Assumes nothing.
use Rattle.std.specs.Prelude.{ℕ, ◌≤◌, ◌≡◌}
use Rattle.rules.specs.Book.{Book}
use Rattle.rules.specs.Calls.{OfferDirection, OfferProfile}
use Rattle.rules.specs.Refusals.{number}

-- no offer is too low: with any MW up to 9,999 it is granted, or refused with the number that it gets with any other
pub record NoneTooLow : Type 0 where
  pub of_direction : (b : Book) (time d hour mw other : ℕ) → mw ≤ 9999 → other ≤ 9999
      → number b (OfferDirection time d hour mw) ≡ number b (OfferDirection time d hour other)
  pub of_profile : (b : Book) (time p hour mw other : ℕ) → mw ≤ 9999 → other ≤ 9999
      → number b (OfferProfile time p hour mw) ≡ number b (OfferProfile time p hour other)
