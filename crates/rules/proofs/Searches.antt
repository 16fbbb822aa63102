-- 02, S-5: the search for a shortage ends after the last hour with MW above 0. What it finds there, and how many values of left it compares.
-- Assumes nothing.
use Prim.Native.Nat.{ℕ, zero, suc, ◌+◌, ◌-◌, ◌*◌, ◌≤◌, ◌<◌, zero-le}
use mathlib.Core.Path.{◌≡◌, refl, sym, ap, subst, ◌∙◌}
use mathlib.Core.Bool.{Bool, true, false, cond, ◌||◌, true≢false, false≢true}
use mathlib.Core.List.{List, [], ◌∷◌, ◌++◌, map}
use native.Mathlib.Omega.{arith}
use lib.Dec.{ltb}
use lib.ListN.{length, get_or, take, drop}
use Rattle.std.proofs.Common.{mul-le-mul}
use borrow.Author.Tests.{lt-ltb, le-ltb, ltb-false}
use Rattle.std.proofs.Math.Bool.{and-false}
use Rattle.std.proofs.lemmas.List.{length-append, length-map}
use Rattle.rules.specs.Basics.{bit, any_above}
use Rattle.rules.specs.Book.{Book, left_at, of_profile, profile_limit}
use Rattle.rules.specs.Bids.{Shortage, nothing_short, short_at, or_else, is_short, profile_short, short_profile, short_hour, shortage}
use Rattle.rules.specs.Searches.{to_last_asked, profile_rows, rows_holding, hour_comparisons, comparisons, up_to_short, compared, SearchRule}
use Rattle.rules.proofs.Bools.{or_left, or_right, or-true}

-- ---- the hours up to the last with MW above 0

none_asked : (mws : List ℕ) → any_above 0 mws ≡ false → to_last_asked mws ≡ []
unfolding to_last_asked
none_asked [] e = refl
none_asked (mw ∷ mws) e = rw e

any_in_front : (n : ℕ) (mws : List ℕ) → any_above 0 (drop n mws) ≡ false → any_above 0 (take n mws) ≡ any_above 0 mws
unfolding any_above
any_in_front zero mws e = sym e
any_in_front (suc n) [] e = refl
any_in_front (suc n) (mw ∷ mws) e = ap (λ (t : Bool). ltb 0 mw || t) (any_in_front n mws e)

-- the MW up to the last above 0 are the same without zeros at the end
asked_in_front : (n : ℕ) (mws : List ℕ) → any_above 0 (drop n mws) ≡ false → to_last_asked (take n mws) ≡ to_last_asked mws
unfolding to_last_asked any_above
asked_in_front zero mws e = sym (none_asked mws e)
asked_in_front (suc n) [] e = refl
asked_in_front (suc n) (mw ∷ mws) e = rw (any_in_front n mws e, asked_in_front n mws e)

any_there : (n : ℕ) (mws : List ℕ) → 0 < get_or mws n 0 → any_above 0 mws ≡ true
unfolding any_above
any_there n [] h = absurd (omega arith)
any_there zero (mw ∷ mws) h = rw (lt-ltb 0 mw h)
any_there (suc n) (mw ∷ mws) h = rw (any_there n mws h) (or-true (ltb 0 mw))

none_there : (mws : List ℕ) → ((k : ℕ) → get_or mws k 0 ≡ 0) → any_above 0 mws ≡ false
unfolding any_above
none_there [] z = refl
none_there (mw ∷ mws) z = rw (z 0, none_there mws (λ k. z (suc k)))

-- the first n of them, where none from number n on is above 0 and the one before it is
pub first_asked : (n : ℕ) (mws : List ℕ) → ((k : ℕ) → n ≤ k → get_or mws k 0 ≡ 0) → (0 < n → 0 < get_or mws (n - 1) 0) → to_last_asked mws ≡ take n mws
unfolding to_last_asked
first_asked zero mws z a = none_asked mws (none_there mws (λ k. z k zero-le))
first_asked (suc n) [] z a = refl
first_asked (suc n) (mw ∷ mws) z a = rw (any_there (suc n - 1) (mw ∷ mws) (a (omega arith))) (ap (λ (l : List ℕ). mw ∷ l) (first_asked n mws (λ k h. z (suc k) (omega arith)) before))
  where
    before : 0 < n → 0 < get_or mws (n - 1) 0
    before h =
        let e : suc n - 1 ≡ suc (n - 1) = omega arith in
        subst (λ (k : ℕ). 0 < get_or (mw ∷ mws) k 0) e (a (omega arith))

few_asked : (mws : List ℕ) → length (to_last_asked mws) ≤ length mws
unfolding to_last_asked
few_asked [] = omega arith
few_asked (mw ∷ mws) = go (any_above 0 (mw ∷ mws)) (few_asked mws)
  where
    go : (t : Bool) → length (to_last_asked mws) ≤ length mws → length (cond t (mw ∷ to_last_asked mws) []) ≤ suc (length mws)
    go true h = omega arith
    go false h = omega arith

-- ---- what is found

module _ (b : Book) (d : ℕ) where
  zero_profile : (hour p map : ℕ) → profile_short b d hour 0 p map ≡ false
  unfolding profile_short
  zero_profile hour p map = rw (le-ltb (left_at b (of_profile p) hour) 0 zero-le) (and-false (bit map d))

  zero_profiles : (hour p : ℕ) (maps : List ℕ) → short_profile b d hour 0 p maps ≡ nothing_short
  unfolding short_profile
  zero_profiles hour p [] = refl
  zero_profiles hour p (map ∷ maps) = rw (zero_profile hour p map) (zero_profiles hour (suc p) maps)

  -- an hour with MW 0 is not short
  zero_hour : (hour : ℕ) → short_hour b d hour 0 ≡ nothing_short
  unfolding short_hour
  zero_hour hour = rw (le-ltb (left_at b d hour) 0 zero-le) (zero_profiles hour 0 b.profiles)

  zero_hours : (hour : ℕ) (mws : List ℕ) → any_above 0 mws ≡ false → shortage b d hour mws ≡ nothing_short
  unfolding shortage any_above
  zero_hours hour [] e = refl
  zero_hours hour (mw ∷ mws) e =
      let z : mw ≡ 0 = omega (arith, ltb-false 0 mw (or_left _ _ e)) in
      rw (z, zero_hour hour) (zero_hours (suc hour) mws (or_right (ltb 0 mw) _ e))

  pub same_found : (first : ℕ) (mws : List ℕ) → shortage b d first (to_last_asked mws) ≡ shortage b d first mws
  unfolding to_last_asked shortage
  same_found first [] = refl
  same_found first (mw ∷ mws) = go (any_above 0 (mw ∷ mws)) refl (same_found (suc first) mws)
    where
      go : (t : Bool) → any_above 0 (mw ∷ mws) ≡ t → shortage b d (suc first) (to_last_asked mws) ≡ shortage b d (suc first) mws
          → shortage b d first (cond t (mw ∷ to_last_asked mws) []) ≡ shortage b d first (mw ∷ mws)
      go true e rest = ap (λ (s : Shortage). or_else (short_hour b d first mw) s) rest
      go false e rest = sym (zero_hours first (mw ∷ mws) e)

  -- without zeros at the end the same is found
  pub shortage_in_front : (first n : ℕ) (mws : List ℕ) → any_above 0 (drop n mws) ≡ false → shortage b d first (take n mws) ≡ shortage b d first mws
  shortage_in_front first n mws e = sym (same_found first (take n mws)) ∙ ap (shortage b d first) (asked_in_front n mws e) ∙ same_found first mws

-- ---- how many values are compared

up_to_short_le : (xs : List Bool) → up_to_short xs ≤ length xs
unfolding up_to_short
up_to_short_le [] = omega arith
up_to_short_le (true ∷ xs) = omega arith
up_to_short_le (false ∷ xs) = omega (arith, up_to_short_le xs)

rows_le : (d p : ℕ) (maps : List ℕ) → length (profile_rows d p maps) ≤ length maps
unfolding profile_rows
rows_le d p [] = omega arith
rows_le d p (map ∷ maps) = go (bit map d) (rows_le d (suc p) maps)
  where
    go : (t : Bool) → length (profile_rows d (suc p) maps) ≤ length maps → length (cond t (of_profile p ∷ profile_rows d (suc p) maps) (profile_rows d (suc p) maps)) ≤ suc (length maps)
    go true h = omega arith
    go false h = omega arith

module _ (b : Book) (d : ℕ) where
  abbrev rows : ℕ
  rows = length (rows_holding b d)

  -- less is left of a row than is asked
  abbrev row_short : ℕ → ℕ → ℕ → Bool
  row_short hour mw row = ltb (left_at b row hour) mw

  all_comparisons : (hour : ℕ) (mws : List ℕ) → length (comparisons b d hour mws) ≡ length mws * rows
  unfolding comparisons
  all_comparisons hour [] = omega arith
  all_comparisons hour (mw ∷ mws) =
      length-append (hour_comparisons b d hour mw) (comparisons b d (suc hour) mws)
      ∙ rw (all_comparisons (suc hour) mws, length-map (rows_holding b d) (row_short hour mw)) (omega arith)

  -- of the profiles from p on, and of what follows them
  module _ (hour mw : ℕ) (rest : List Bool) where
    abbrev profile_comparisons : ℕ → List ℕ → List Bool
    profile_comparisons p maps = map (row_short hour mw) (profile_rows d p maps)

    all_profiles : (p : ℕ) (maps : List ℕ) → short_profile b d hour mw p maps ≡ nothing_short
        → up_to_short (profile_comparisons p maps ++ rest) ≡ length (profile_rows d p maps) + up_to_short rest
    unfolding short_profile profile_short profile_rows up_to_short
    all_profiles p [] e = omega arith
    all_profiles p (map ∷ maps) e = go (bit map d) refl (row_short hour mw (of_profile p)) refl e (all_profiles (suc p) maps)
      where
        go : (held : Bool) → bit map d ≡ held → (short : Bool) → row_short hour mw (of_profile p) ≡ short
            → short_profile b d hour mw p (map ∷ maps) ≡ nothing_short
            → (short_profile b d hour mw (suc p) maps ≡ nothing_short → up_to_short (profile_comparisons (suc p) maps ++ rest) ≡ length (profile_rows d (suc p) maps) + up_to_short rest)
            → up_to_short (profile_comparisons p (map ∷ maps) ++ rest) ≡ length (profile_rows d p (map ∷ maps)) + up_to_short rest
        go true h true s e ih = absurd (true≢false (ap is_short (rw (h, s) at e)))
        go true h false s e ih = rw (h, s) (omega (arith, ih (rw (h, s) at e)))
        go false h short s e ih = rw h (ih (rw h at e))

    profiles_to : (p : ℕ) (maps : List ℕ) (h l : ℕ) → short_profile b d hour mw p maps ≡ short_at h l
        → (h ≡ hour) × (p < l) × (up_to_short (profile_comparisons p maps ++ rest) ≡ length (profile_rows d p (take (l - p) maps)))
    unfolding short_profile profile_short profile_rows up_to_short
    profiles_to p [] h l e = absurd (false≢true (ap is_short e))
    profiles_to p (map ∷ maps) h l e = go (bit map d) refl (row_short hour mw (of_profile p)) refl e (profiles_to (suc p) maps h l)
      where
        go : (held : Bool) → bit map d ≡ held → (short : Bool) → row_short hour mw (of_profile p) ≡ short
            → short_profile b d hour mw p (map ∷ maps) ≡ short_at h l
            → (short_profile b d hour mw (suc p) maps ≡ short_at h l
            → (h ≡ hour) × (suc p < l) × (up_to_short (profile_comparisons (suc p) maps ++ rest) ≡ length (profile_rows d (suc p) (take (l - suc p) maps))))
            → (h ≡ hour) × (p < l) × (up_to_short (profile_comparisons p (map ∷ maps) ++ rest) ≡ length (profile_rows d p (take (l - p) (map ∷ maps))))
        go true t true s e ih =
            let e' : short_at hour (suc p) ≡ short_at h l = rw (t, s) at e in
            let q : suc p ≡ l = cc in
            let one : l - p ≡ 1 = omega (arith, q) in
            (cc, omega (arith, q), rw (one, t, s) refl)
        go true t false s e ih =
            let r = ih (rw (t, s) at e) in
            let next : l - p ≡ suc (l - suc p) = omega (arith, r.1) in
            (r.0, omega (arith, r.1), rw (next, t, s) (ap suc r.2))
        go false t short s e ih =
            let r = ih (rw t at e) in
            let next : l - p ≡ suc (l - suc p) = omega (arith, r.1) in
            (r.0, omega (arith, r.1), rw (next, t) r.2)

    all_of_hour : short_hour b d hour mw ≡ nothing_short → up_to_short (hour_comparisons b d hour mw ++ rest) ≡ rows + up_to_short rest
    unfolding short_hour up_to_short
    all_of_hour e = go (row_short hour mw d) refl
      where
        go : (t : Bool) → row_short hour mw d ≡ t → up_to_short (hour_comparisons b d hour mw ++ rest) ≡ rows + up_to_short rest
        go true t = absurd (true≢false (ap is_short (rw (t, short_hour) at e)))
        go false t = rw t (omega (arith, all_profiles 0 b.profiles (rw (t, short_hour) at e)))

    hour_to : (h l : ℕ) → short_hour b d hour mw ≡ short_at h l
        → (h ≡ hour) × (up_to_short (hour_comparisons b d hour mw ++ rest) ≡ suc (length (profile_rows d 0 (take l b.profiles))))
    unfolding short_hour up_to_short profile_rows
    hour_to h l e = go (row_short hour mw d) refl
      where
        go : (t : Bool) → row_short hour mw d ≡ t
            → (h ≡ hour) × (up_to_short (hour_comparisons b d hour mw ++ rest) ≡ suc (length (profile_rows d 0 (take l b.profiles))))
        go true t =
            let e' : short_at hour 0 ≡ short_at h l = rw (t, short_hour) at e in
            let z : l ≡ 0 = cc in
            (cc, rw (t, z) refl)
        go false t =
            let r = profiles_to 0 b.profiles h l (rw (t, short_hour) at e) in
            let n : l - 0 ≡ l = omega arith in
            (r.0, rw t (ap suc (rw n at r.2)))

  all_hours : (hour : ℕ) (mws : List ℕ) → shortage b d hour mws ≡ nothing_short → up_to_short (comparisons b d hour mws) ≡ length mws * rows
  unfolding shortage comparisons up_to_short
  all_hours hour [] e = omega arith
  all_hours hour (mw ∷ mws) e = go (short_hour b d hour mw) refl e (all_hours (suc hour) mws)
    where
      go : (s : Shortage) → short_hour b d hour mw ≡ s → or_else s (shortage b d (suc hour) mws) ≡ nothing_short
          → (shortage b d (suc hour) mws ≡ nothing_short → up_to_short (comparisons b d (suc hour) mws) ≡ length mws * rows)
          → up_to_short (comparisons b d hour (mw ∷ mws)) ≡ suc (length mws) * rows
      go nothing_short q f rest = omega (arith, all_of_hour hour mw (comparisons b d (suc hour) mws) q, rest f)
      go (short_at h l) q f rest = absurd (true≢false (ap is_short f))

  hours_to : (hour : ℕ) (mws : List ℕ) (h l : ℕ) → shortage b d hour mws ≡ short_at h l
      → (hour ≤ h) × (up_to_short (comparisons b d hour mws) ≡ (h - hour) * rows + suc (length (profile_rows d 0 (take l b.profiles))))
  unfolding shortage comparisons
  hours_to hour [] h l e = absurd (false≢true (ap is_short e))
  hours_to hour (mw ∷ mws) h l e = go (short_hour b d hour mw) refl e (hours_to (suc hour) mws h l)
    where
      go : (s : Shortage) → short_hour b d hour mw ≡ s → or_else s (shortage b d (suc hour) mws) ≡ short_at h l
          → (shortage b d (suc hour) mws ≡ short_at h l
          → (suc hour ≤ h) × (up_to_short (comparisons b d (suc hour) mws) ≡ (h - suc hour) * rows + suc (length (profile_rows d 0 (take l b.profiles)))))
          → (hour ≤ h) × (up_to_short (comparisons b d hour (mw ∷ mws)) ≡ (h - hour) * rows + suc (length (profile_rows d 0 (take l b.profiles))))
      go nothing_short q f rest =
          let r = rest f in
          let next : h - hour ≡ suc (h - suc hour) = omega (arith, r.0) in
          (omega (arith, r.0), rw next (omega (arith, all_of_hour hour mw (comparisons b d (suc hour) mws) q, r.1)))
      go (short_at h' l') q f rest =
          let r = hour_to hour mw (comparisons b d (suc hour) mws) h l (q ∙ f) in
          let none : h - hour ≡ 0 = omega (arith, r.0) in
          (omega (arith, r.0), rw none (omega (arith, r.1)))

  pub few_compared : (first : ℕ) (mws : List ℕ) → length mws ≤ 5 → length b.profiles ≤ profile_limit → compared b d first mws ≤ 45
  few_compared first mws five eight =
      let most = up_to_short_le (comparisons b d first (to_last_asked mws)) in
      let hours = few_asked mws in
      let profiles = rows_le d 0 b.profiles in
      let nine : rows ≤ 9 = omega arith in
      let most_hours : length (to_last_asked mws) ≤ 5 = omega arith in
      omega (arith, most, all_comparisons first (to_last_asked mws), mul-le-mul most_hours nine)

pub search_rule : SearchRule
search_rule b d first mws =
    record {
      up_to_last = λ n. first_asked n mws;
      same_found = same_found b d first mws;
      all_compared = λ e. all_hours b d first (to_last_asked mws) (same_found b d first mws ∙ e);
      compared_up_to = λ hour l e. (hours_to b d first (to_last_asked mws) hour l (same_found b d first mws ∙ e)).1;
      few = few_compared b d first mws;
    }
