-- The search for a shortage as its two loops make it, a law for each way through them.
-- Assumes nothing.
use Rattle.std.proofs.Common.{◌≡◌, ℕ, suc, ◌+◌, ◌≤◌, ◌<◌, Bool, true, false, ltb, List, ◌∷◌, ◌++◌, map, length, get_or, drop, ◌∙◌, arith}
use Rattle.std.proofs.lemmas.List.{drop_all, drop_more}
use Rattle.rules.specs.Basics.{bit}
use Rattle.rules.specs.Book.{Book, left_at, of_profile, profile_limit}
use Rattle.rules.specs.Bids.{Shortage, nothing_short, short_at, or_else, profile_short, short_profile, short_hour, shortage}
use Rattle.rules.specs.Searches.{to_last_asked, profile_rows, comparisons, up_to_short, compared}
use Rattle.rules.proofs.Searches.{same_found, few_compared}
use Rattle.cells.specs.Layout.{PROFILES}
use Rattle.cells.specs.View.{cell, counted, book_of}
use Rattle.cells.proofs.Views.{profile_count, profile_at}

module _ (cells : List ℕ) (d first : ℕ) (mws : List ℕ) where
  abbrev book : Book
  book = book_of cells

  abbrev asked : List ℕ
  asked = to_last_asked mws

  -- less is left of a row in hour number k than is asked
  abbrev is_less : ℕ → ℕ → Bool
  is_less k row = ltb (left_at book row (first + k)) (get_or asked k 0)

  -- c values were compared before hour number k, and none was short: what the rest finds is what all find, and c and what the rest compares make up the count
  pub record FromHour (k c : ℕ) : Type 0 where
    pub found_is : shortage book d (first + k) (drop k asked) ≡ shortage book d first asked
    pub count_is : c + up_to_short (comparisons book d (first + k) (drop k asked)) ≡ compared book d first mws

  -- as `FromHour`, before profile p in hour number k
  pub record FromProfile (k p c : ℕ) : Type 0 where
    pub found_is : or_else (short_profile book d (first + k) (get_or asked k 0) p (drop p book.profiles)) (shortage book d (first + (k + 1)) (drop (k + 1) asked)) ≡ shortage book d first asked
    pub count_is : c + up_to_short (map (is_less k) (profile_rows d p (drop p book.profiles)) ++ comparisons book d (first + (k + 1)) (drop (k + 1) asked)) ≡ compared book d first mws

  -- s is found, and c values were compared
  pub record Ends (s : Shortage) (c : ℕ) : Type 0 where
    pub found_is : s ≡ shortage book d first mws
    pub count_is : c ≡ compared book d first mws

  -- at most 45 values at the end, and at every step before it
  pub few : length mws ≤ 5 → compared book d first mws ≤ 45
  few five = few_compared book d first mws five (rw (profile_count cells) (omega arith))

  pub few_so_far : {c : ℕ} (rest : ℕ) → c + rest ≡ compared book d first mws → length mws ≤ 5 → c ≤ 45
  few_so_far rest e five = omega (arith, e, few five)

  after_hour : (k : ℕ) → suc (first + k) ≡ first + (k + 1)
  after_hour k = omega arith

  module _ {k c : ℕ} (at : FromHour k c) where
    pub past_hours : length asked ≤ k → Ends nothing_short c
    unfolding shortage comparisons up_to_short
    past_hours l =
        let none = drop_all k asked l in
        let count : c + 0 ≡ compared book d first mws = rw none at at.count_is in
        record { found_is = rw none at at.found_is ∙ same_found book d first mws; count_is = omega (arith, count) }

    module _ (l : k < length asked) where
      pub direction_short : is_less k d ≡ true → Ends (short_at (first + k) 0) (c + 1)
      unfolding shortage short_hour comparisons up_to_short
      direction_short s =
          let next = drop_more asked k 0 l in
          record { found_is = rw (next, s) at at.found_is ∙ same_found book d first mws; count_is = rw (next, s) at at.count_is }

      pub direction_fits : is_less k d ≡ false → FromProfile k 0 (c + 1)
      unfolding shortage short_hour comparisons up_to_short
      direction_fits s =
          let next = drop_more asked k 0 l in
          record { found_is = rw (next, s, after_hour k) at at.found_is; count_is = omega (arith, (rw (next, s, after_hour k) at at.count_is)) }

  module _ {k p c : ℕ} (at : FromProfile k p c) where
    pub past_profiles : counted cells PROFILES profile_limit ≤ p → FromHour (k + 1) c
    unfolding short_profile profile_rows
    past_profiles l =
        let none = drop_all p book.profiles (rw (profile_count cells) l) in
        record { found_is = rw none at at.found_is; count_is = rw none at at.count_is }

    module _ (l : p < counted cells PROFILES profile_limit) where
      next_profile : drop p book.profiles ≡ cell cells (PROFILES + 1 + p) ∷ drop (p + 1) book.profiles
      next_profile = drop_more book.profiles p 0 (rw (profile_count cells) l) ∙ rw (profile_at cells p l)

      after_profile : suc p ≡ p + 1
      after_profile = omega arith

      pub profile_lacks : bit (cell cells (PROFILES + 1 + p)) d ≡ false → FromProfile k (p + 1) c
      unfolding short_profile profile_short profile_rows
      profile_lacks t = record { found_is = rw (next_profile, t, after_profile) at at.found_is; count_is = rw (next_profile, t, after_profile) at at.count_is }

      module _ (t : bit (cell cells (PROFILES + 1 + p)) d ≡ true) where
        pub profile_is_short : is_less k (of_profile p) ≡ true → Ends (short_at (first + k) (suc p)) (c + 1)
        unfolding short_profile profile_short profile_rows up_to_short
        profile_is_short s =
            record { found_is = rw (next_profile, t, s) at at.found_is ∙ same_found book d first mws; count_is = rw (next_profile, t, s) at at.count_is }

        pub profile_fits : is_less k (of_profile p) ≡ false → FromProfile k (p + 1) (c + 1)
        unfolding short_profile profile_short profile_rows up_to_short
        profile_fits s =
            record { found_is = rw (next_profile, t, s, after_profile) at at.found_is; count_is = omega (arith, (rw (next_profile, t, s, after_profile) at at.count_is)) }
