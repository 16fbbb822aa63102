-- 02, S-5: how far the search for a shortage goes, and how many values of left it compares.
-- Assumes nothing.
use Rattle.std.specs.Prelude.{ℕ, suc, ◌+◌, ◌-◌, ◌*◌, ◌≤◌, ◌<◌, ◌≡◌, get_or, Bool, if◌then◌else◌, List, [], ◌∷◌, ◌++◌, map, take, length, nat_lt}
use Rattle.rules.specs.Basics.{bit, any_above}
use Rattle.rules.specs.Book.{Book, left_at, of_profile, profile_limit}
use Rattle.rules.specs.Bids.{nothing_short, short_at, shortage}

-- the MW of a session's hours from its first hour to the last with MW above 0; none where all are 0
unfoldable pub to_last_asked : List ℕ → List ℕ
to_last_asked [] = []
to_last_asked (mw ∷ mws) = if any_above 0 (mw ∷ mws) then mw ∷ to_last_asked mws else []

-- the rows of the profiles that hold direction d; the maps are those of the profiles from p on
unfoldable pub profile_rows : ℕ → ℕ → List ℕ → List ℕ
profile_rows d p [] = []
profile_rows d p (map ∷ maps) = if bit map d then of_profile p ∷ profile_rows d (suc p) maps else profile_rows d (suc p) maps

-- all rows that hold direction d: its own, and those of the profiles
abbrev pub rows_holding : Book → ℕ → List ℕ
rows_holding b d = d ∷ profile_rows d 0 b.profiles

-- a comparison for each of these rows: whether less is left in the hour than is asked
abbrev pub hour_comparisons : Book → ℕ → ℕ → ℕ → List Bool
hour_comparisons b d hour mw = map (λ row. nat_lt (left_at b row hour) mw) (rows_holding b d)

-- those of all hours in order, of MW for the hours from `hour` on
unfoldable pub comparisons : Book → ℕ → ℕ → List ℕ → List Bool
comparisons b d hour [] = []
comparisons b d hour (mw ∷ mws) = hour_comparisons b d hour mw ++ comparisons b d (suc hour) mws

-- how many there are up to and with the first that is short; all where none is
unfoldable pub up_to_short : List Bool → ℕ
up_to_short [] = 0
up_to_short (short ∷ rest) = if short then 1 else suc (up_to_short rest)

-- how many values of left the search compares, of MW for the hours from `first` on
abbrev pub compared : Book → ℕ → ℕ → List ℕ → ℕ
compared b d first mws = up_to_short (comparisons b d first (to_last_asked mws))

-- what is claimed of a search on direction d
module _ (b : Book) (d first : ℕ) (mws : List ℕ) where
  pub record SearchEnds : Type 0 where
    -- it goes through the first n hours, where no hour after them has MW above 0 and the last of them has
    pub up_to_last : (n : ℕ) → ((k : ℕ) → n ≤ k → get_or mws k 0 ≡ 0) → (0 < n → 0 < get_or mws (n - 1) 0) → to_last_asked mws ≡ take n mws
    -- the hours after the last with MW above 0 are never short: what is found is what a search of all hours finds
    pub same_found : shortage b d first (to_last_asked mws) ≡ shortage b d first mws
    -- where nothing is short: one for the direction and one for each profile that holds it, in each hour up to the last
    pub all_compared : shortage b d first mws ≡ nothing_short → compared b d first mws ≡ length (to_last_asked mws) * suc (length (profile_rows d 0 b.profiles))
    -- where an hour is short: as many in each hour before it; in it one for the direction and one for each profile that holds it, up to and with the short one
    pub compared_up_to : (hour l : ℕ) → shortage b d first mws ≡ short_at hour l
        → compared b d first mws ≡ (hour - first) * suc (length (profile_rows d 0 b.profiles)) + suc (length (profile_rows d 0 (take l b.profiles)))
    -- five hours at most, and in each the direction and eight profiles
    pub few : length mws ≤ 5 → length b.profiles ≤ profile_limit → compared b d first mws ≤ 45

abbrev pub SearchRule : Type 0
SearchRule = (b : Book) (d first : ℕ) (mws : List ℕ) → SearchEnds b d first mws
