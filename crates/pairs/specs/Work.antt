-- What is found of the pair of a nomination, and what a granted one leaves in the table of pairs.
-- Assumes nothing.
use Rattle.std.specs.Prelude.{Option, Some, None, Result, Ok, Err, ℕ, ◌<◌, ◌≡◌, Bool, if◌then◌else◌, List, ◌∷◌, ◌++◌, nat_le, length, set}
use Rattle.rules.specs.declared.Refusal.{Refusal}
use Rattle.rules.specs.declared.Refusal.TheVariants.{Full}
use Rattle.rules.specs.Basics.{no_mw}
use Rattle.rules.specs.Book.{pair_limit}
use Rattle.rules.specs.Nominations.{with_side, with_pair}
use Rattle.cells.specs.Layout.{CELLS, PAIRS}
use Rattle.cells.specs.View.{counted, pair_at, book_of, Cells}
use Rattle.stores.specs.Stores.{with_row}
use Rattle.cells.specs.Updates.{with_pairs}
use Rattle.pairs.specs.declared.PairKey.{PairKey}
use Rattle.pairs.specs.Search.{standing_pair}

-- the pair found, or, where a new one is needed, whether the table is full
abbrev pub entry_of : Bool → Option ℕ → Result (Option ℕ) Refusal
entry_of full (Some i) = Ok (Some i)
entry_of full None = if full then Err Full else Ok None

-- the entry of a nomination
unfoldable pub entry_in : List ℕ → PairKey → Result (Option ℕ) Refusal
entry_in b key = entry_of (nat_le pair_limit (counted b PAIRS pair_limit)) (standing_pair b key)

-- the entry of a nomination that 13 does not refuse
pub record Enters (b : List ℕ) (key : PairKey) (e : Option ℕ) : Type 0 where
  pub entry_is : Ok e ≡ entry_in b key

-- a new pair with no MW
pub record NewPair (b : List ℕ) (key : PairKey) (n : ℕ) (b' : List ℕ) : Type 0 where
  pub cells : Cells b
  pub number_is : n ≡ counted b PAIRS pair_limit
  pub cells_are : b' ≡ with_row PAIRS n (key.right ∷ key.out ∷ key.into ∷ (no_mw ++ no_mw)) b

-- the pair stands at row k, and its side is all that is left to replace
pub record PairThere (b : List ℕ) (key : PairKey) (k : ℕ) (b' : List ℕ) : Type 0 where
  pub count : length b' ≡ CELLS
  pub row : k < counted b' PAIRS pair_limit
  pub rest : book_of b' ≡ with_pairs (book_of b) (book_of b').pairs
  pub pair : (side : ℕ) (mw : List ℕ) → set (book_of b').pairs k (with_side side mw (pair_at b' k)) ≡ with_pair key.right key.out key.into side mw (book_of b).pairs
