-- A bid is short exactly where some hour asks more than is left: one that is not short fits each row that holds its direction, in each hour.
-- Assumes nothing.
use Prim.Native.Nat.{ℕ, zero, suc, ◌+◌, ◌-◌, ◌^◌, ◌≤◌, ◌<◌, zero-le}
use mathlib.Core.Path.{◌≡◌, refl, sym, ap, ◌∙◌, subst, subst⁻¹}
use mathlib.Core.Bool.{Bool, true, false, true≢false, false≢true}
use mathlib.Core.List.{List, [], ◌∷◌}
use native.Mathlib.Nat.{add-zero, zero-add, suc-add, add-suc, zero-div, le_of_suc-le-suc}
use native.Mathlib.Omega.{arith}
use lib.Dec.{eqb, leb, ltb}
use lib.ListN.{get_or, length}
use borrow.Author.Tests.{eqb-true, eq-eqb, leb-true, leb-false, ltb-true, ltb-false, lt-ltb, le-ltb}
use Rattle.rules.specs.Basics.{bit, has, mw_at}
use Rattle.rules.specs.Book.{Book, holds, left_at, of_profile}
use Rattle.rules.specs.Bids.{Shortage, nothing_short, short_at, or_else, is_short, profile_short, short_profile, short_hour, shortage, share}
use Rattle.rules.specs.Refusals.{order, before, first_of, refuses, unknown, shortage_of, number}
use Rattle.rules.specs.Details.{refusal, short_hour_of, short_capacity_of}
use Rattle.rules.specs.Run.{Step}
use Rattle.rules.specs.Demand1.{None}
use Rattle.rules.specs.Shortages.{ShortHour, HourFits, NamesCapacity, NamesFirst, bid, reply, first, ShortRule}
use Rattle.rules.proofs.Bools.{and_left, and_right, and-false, or_left, or_right}
use Rattle.rules.proofs.Decisions.{refused_so, passed, none_before, at, applied_number}
use Rattle.rules.proofs.Histories.{refused_step}

-- a profile that is not there holds no direction
pub no_bit : (d : ℕ) → bit 0 d ≡ false
unfolding bit
no_bit d = rw (zero-div (2 ^ d))

-- what the test of one profile says
module _ (b : Book) (d hour mw p map : ℕ) where
  short_held : profile_short b d hour mw p map ≡ true → bit map d ≡ true
  unfolding profile_short
  short_held t = and_left _ _ t

  short_above : profile_short b d hour mw p map ≡ true → left_at b (of_profile p) hour < mw
  unfolding profile_short
  short_above t = ltb-true (left_at b (of_profile p) hour) mw (and_right (bit map d) _ t)

  short_not : profile_short b d hour mw p map ≡ false → bit map d ≡ true → mw ≤ left_at b (of_profile p) hour
  unfolding profile_short
  short_not t h = ltb-false (left_at b (of_profile p) hour) mw (and-false (bit map d) _ t h)

-- ---- a bid that is not short

-- in one hour: each profile that holds the direction, numbered from p on
module _ (b : Book) (d hour mw : ℕ) where
  profiles_fit : (p : ℕ) (maps : List ℕ) → is_short (short_profile b d hour mw p maps) ≡ false
      → (k : ℕ) → bit (get_or maps k 0) d ≡ true → mw ≤ left_at b (of_profile (p + k)) hour
  unfolding short_profile
  profiles_fit p [] e k h = absurd (true≢false (sym h ∙ no_bit d))
  profiles_fit p (map ∷ maps) e k h =
      go (profile_short b d hour mw p map) refl e k h (λ e' k' h'. profiles_fit (suc p) maps e' k' h')
    where
      go : (t : Bool) → (profile_short b d hour mw p map) ≡ t → is_short (short_profile b d hour mw p (map ∷ maps)) ≡ false
          → (k : ℕ) → bit (get_or (map ∷ maps) k 0) d ≡ true
          → (is_short (short_profile b d hour mw (suc p) maps) ≡ false → (k : ℕ) → bit (get_or maps k 0) d ≡ true → mw ≤ left_at b (of_profile (suc p + k)) hour)
          → mw ≤ left_at b (of_profile (p + k)) hour
      go true t e k h rest = absurd (true≢false (rw t at e))
      go false t e zero h rest = rw add-zero (short_not b d hour mw p map t h)
      go false t e (suc k) h rest =
          subst (λ (x : ℕ). mw ≤ left_at b (of_profile x) hour) (suc-add p k ∙ sym (add-suc p k)) (rest (rw t at e) k h)

  hour_fits : is_short (short_hour b d hour mw) ≡ false → (row : ℕ) → holds b.profiles d row ≡ true → mw ≤ left_at b row hour
  unfolding short_hour holds
  hour_fits e row h = go (ltb (left_at b d hour) mw) refl (ltb row 24) refl
    where
      go : (t : Bool) → ltb (left_at b d hour) mw ≡ t → (s : Bool) → ltb row 24 ≡ s → mw ≤ left_at b row hour
      go true t s q = absurd (true≢false (rw (t, short_hour) at e))
      go false t true q = rw (eqb-true row d (rw (q, holds) at h)) (ltb-false (left_at b d hour) mw t)
      go false t false q =
          subst (λ (x : ℕ). mw ≤ left_at b x hour) (let g = ltb-false row 24 q in omega arith)
          (profiles_fit 0 b.profiles (rw (t, short_hour) at e) (row - 24) (rw (q, holds) at h))

split_or : (s t : Shortage) → is_short (or_else s t) ≡ false → (is_short s ≡ false) × (is_short t ≡ false)
split_or nothing_short t e = (refl, e)
split_or (short_at h l) t e = absurd (true≢false e)

hours_fit : (b : Book) (d : ℕ) (mws : List ℕ) (first : ℕ) → is_short (shortage b d first mws) ≡ false
    → (k row : ℕ) → holds b.profiles d row ≡ true → get_or mws k 0 ≤ left_at b row (first + k)
unfolding shortage
hours_fit b d [] first e k row h = zero-le
hours_fit b d (mw ∷ mws) first e zero row h = rw add-zero (hour_fits b d first mw (split_or (short_hour b d first mw) _ e).0 row h)
hours_fit b d (mw ∷ mws) first e (suc k) row h =
    subst (λ (x : ℕ). get_or mws k 0 ≤ left_at b row x) (suc-add first k ∙ sym (add-suc first k))
    (hours_fit b d mws (suc first) (split_or (short_hour b d first mw) _ e).1 k row h)

pub bid_fits : (b : Book) (d first : ℕ) (mws : List ℕ) → is_short (shortage b d first mws) ≡ false
    → (row hour : ℕ) → share b.profiles d first mws row hour ≤ left_at b row hour
unfolding share mw_at
bid_fits b d first mws e row hour = go (holds b.profiles d row) refl (leb first hour) refl
  where
    go : (t : Bool) → holds b.profiles d row ≡ t → (s : Bool) → leb first hour ≡ s → share b.profiles d first mws row hour ≤ left_at b row hour
    go false t s q = rw (t, share) zero-le
    go true t false q = rw (t, share, q, mw_at) zero-le
    go true t true q =
        rw (t, share, q, mw_at)
        (subst (λ (x : ℕ). get_or mws (hour - first) 0 ≤ left_at b row x) (let g = leb-true first hour q in omega arith)
        (hours_fit b d mws first e (hour - first) row t))

-- ---- what the search names

-- the profile named, of those from p on
record NamesProfile (b : Book) (d hour mw p : ℕ) (maps : List ℕ) (h l : ℕ) : Type 0 where
  pub k : ℕ
  pub hour_is : h ≡ hour
  pub capacity_is : l ≡ suc (p + k)
  pub held : bit (get_or maps k 0) d ≡ true
  pub above : left_at b (of_profile (p + k)) hour < mw
  pub lower : (q : ℕ) → q < k → bit (get_or maps q 0) d ≡ true → mw ≤ left_at b (of_profile (p + q)) hour

not_short : (s : Shortage) (h l : ℕ) → is_short s ≡ false → s ≡ short_at h l → ⊥
not_short s h l n e = true≢false (sym (ap is_short e) ∙ n)

profile_named : (b : Book) (d hour mw p : ℕ) (maps : List ℕ) (h l : ℕ) → short_profile b d hour mw p maps ≡ short_at h l
    → NamesProfile b d hour mw p maps h l
unfolding short_profile
profile_named b d hour mw p [] h l e = absurd (not_short nothing_short h l refl e)
profile_named b d hour mw p (map ∷ maps) h l e =
    go (profile_short b d hour mw p map) refl (λ f. profile_named b d hour mw (suc p) maps h l f)
  where
    next : (k : ℕ) → suc p + k ≡ p + suc k
    next k = suc-add p k ∙ sym (add-suc p k)

    go : (t : Bool) → (profile_short b d hour mw p map) ≡ t
        → (short_profile b d hour mw (suc p) maps ≡ short_at h l → NamesProfile b d hour mw (suc p) maps h l)
        → NamesProfile b d hour mw p (map ∷ maps) h l
    go true t rest =
        let e' : short_at hour (suc p) ≡ short_at h l = rw t at e in
        record {
          k = 0;
          hour_is = cc;
          capacity_is = rw (add-zero p) (cc);
          held = short_held b d hour mw p map t;
          above = rw (add-zero p) (short_above b d hour mw p map t);
          lower = λ q i g. absurd (omega arith);
        }
    go false t rest =
        let r = rest (rw t at e) in
        record {
          k = suc r.k;
          hour_is = r.hour_is;
          capacity_is = r.capacity_is ∙ ap suc (next r.k);
          held = r.held;
          above = rw (← next r.k) r.above;
          lower = λ q i g. below q i g (λ j i' g'. r.lower j i' g');
        }
      where
        below : (q : ℕ) → q < suc (rest (rw t at e)).k → bit (get_or (map ∷ maps) q 0) d ≡ true
            → ((j : ℕ) → j < (rest (rw t at e)).k → bit (get_or maps j 0) d ≡ true → mw ≤ left_at b (of_profile (suc p + j)) hour)
            → mw ≤ left_at b (of_profile (p + q)) hour
        below zero i g lower = rw (add-zero p) (short_not b d hour mw p map t g)
        below (suc j) i g lower = rw (← next j) (lower j (le_of_suc-le-suc i) g)

hour_named : (b : Book) (d hour mw h l : ℕ) → short_hour b d hour mw ≡ short_at h l → (h ≡ hour) × NamesCapacity b d hour mw l
unfolding short_hour
hour_named b d hour mw h l e = go (ltb (left_at b d hour) mw) refl
  where
    go : (t : Bool) → ltb (left_at b d hour) mw ≡ t → (h ≡ hour) × NamesCapacity b d hour mw l
    go true t =
        let e' : short_at hour 0 ≡ short_at h l = rw (t, short_hour) at e in
        let z : 0 ≡ l = cc in
        (cc, subst (NamesCapacity b d hour mw) z (ltb-true (left_at b d hour) mw t))
    go false t =
        let r = profile_named b d hour mw 0 b.profiles h l (rw (t, short_hour) at e) in (
          r.hour_is,
          subst (NamesCapacity b d hour mw) (sym (r.capacity_is ∙ ap suc (zero-add r.k)))
              (ltb-false (left_at b d hour) mw t, r.held, rw zero-add at r.above, λ q i g. rw zero-add at (r.lower q i g)),
        )

bid_named : (b : Book) (d : ℕ) (mws : List ℕ) (first h l : ℕ) → shortage b d first mws ≡ short_at h l → NamesFirst b d first mws h l
unfolding shortage
bid_named b d [] first h l e = absurd (not_short nothing_short h l refl e)
bid_named b d (mw ∷ mws) first h l e = go (short_hour b d first mw) refl e (λ f. bid_named b d mws (suc first) h l f)
  where
    next : (k : ℕ) → suc first + k ≡ first + suc k
    next k = suc-add first k ∙ sym (add-suc first k)

    go : (s : Shortage) → short_hour b d first mw ≡ s → or_else s (shortage b d (suc first) mws) ≡ short_at h l
        → (shortage b d (suc first) mws ≡ short_at h l → NamesFirst b d (suc first) mws h l) → NamesFirst b d first (mw ∷ mws) h l
    go nothing_short q f rest =
        let r = rest f in
        record {
          k = suc r.k;
          hour_is = r.hour_is ∙ next r.k;
          earlier = λ j i. before j i (λ j' i'. r.earlier j' i');
          named = r.named;
        }
      where
        before : (j : ℕ) → j < suc (rest f).k → ((j' : ℕ) → j' < (rest f).k → HourFits b d (suc first) mws j') → HourFits b d first (mw ∷ mws) j
        before zero i fits row g = rw (add-zero first) (hour_fits b d first mw (ap is_short q) row g)
        before (suc j) i fits row g = rw (← next j) (fits j (le_of_suc-le-suc i) row g)
    go (short_at h' l') q f rest =
        let r = hour_named b d first mw h l (q ∙ f) in
        record {
          k = 0;
          hour_is = r.0 ∙ sym (add-zero first);
          earlier = λ j i. absurd (omega arith);
          named = rw r.0 r.1;
        }

-- ---- the row that it names is short

pub holds_direction : (maps : List ℕ) (d : ℕ) → d < 24 → holds maps d d ≡ true
unfolding holds
holds_direction maps d l = rw (lt-ltb d 24 l) (eq-eqb d d refl)

holds_profile : (maps : List ℕ) (d p : ℕ) → bit (get_or maps p 0) d ≡ true → holds maps d (of_profile p) ≡ true
unfolding holds
holds_profile maps d p h =
    let e : 24 + p - 24 ≡ p = omega arith in
    rw (le-ltb (24 + p) 24 (omega arith), e) h

short_hour_lem : (b : Book) (d first : ℕ) (mws : List ℕ) (h l : ℕ) → d < 24 → NamesFirst b d first mws h l → ShortHour b d first mws
short_hour_lem b d first mws h zero i n =
    record { k = n.k; row = d; held = holds_direction b.profiles d i; above = rw n.hour_is at n.named }
short_hour_lem b d first mws h (suc p) i n =
    record { k = n.k; row = of_profile p; held = holds_profile b.profiles d p n.named.1; above = rw n.hour_is at n.named.2 }

-- ---- refusal 15

is_short_lem : (s : Shortage) → is_short s ≡ true → s ≡ short_at (short_hour_of s) (short_capacity_of s)
is_short_lem nothing_short e = absurd (false≢true e)
is_short_lem (short_at h l) e = refl

module _ (b : Book) (time p d session : ℕ) (mw : List ℕ) where
  abbrev found : Shortage
  found = shortage b d (first b time p d session mw) mw

  -- condition 15 of the bid
  fifteen_is : refuses b (bid b time p d session mw) 15 ≡ is_short found
  unfolding refuses shortage_of
  fifteen_is = refl

  is_fifteen : (reply b time p d session mw).number ≡ 15 → number b (bid b time p d session mw) ≡ 15
  is_fifteen e = sym (applied_number b (bid b time p d session mw)) ∙ e

  found_short : number b (bid b time p d session mw) ≡ 15 → is_short found ≡ true
  found_short e =
      sym fifteen_is
      ∙ refused_so (refuses b (bid b time p d session mw)) order 15 e (λ z. omega arith)

  -- the direction is there
  direction_known : number b (bid b time p d session mw) ≡ 15 → d < length b.directions
  unfolding refuses unknown order before has
  direction_known e =
      let u = at (refuses b (bid b time p d session mw)) 6 (before 15 order) (passed (refuses b (bid b time p d session mw)) order 15 e) tt in
      leb-false (length b.directions) d (or_right (leb (length b.parties) p) _ (or_left _ _ u))

  named : number b (bid b time p d session mw) ≡ 15 → NamesFirst b d (first b time p d session mw) mw (short_hour_of found) (short_capacity_of found)
  named e = bid_named b d mw (first b time p d session mw) (short_hour_of found) (short_capacity_of found) (is_short_lem found (found_short e))

  when_short : None (refuses b (bid b time p d session mw)) (before 15 order) → ShortHour b d (first b time p d session mw) mw
      → (reply b time p d session mw).number ≡ 15
  unfolding order before first_of
  when_short h s =
      applied_number b (bid b time p d session mw)
      ∙ none_before (refuses b (bid b time p d session mw)) (before 15 order) (15 ∷ []) h
      ∙ go (is_short found) refl
    where
      go : (t : Bool) → is_short found ≡ t → first_of (refuses b (bid b time p d session mw)) (15 ∷ []) ≡ 15
      go true t = rw (fifteen_is ∙ t)
      go false t =
          let f = hours_fit b d mw (first b time p d session mw) t s.k s.row s.held in
          absurd (omega (arith, s.above))

  reply_names : (reply b time p d session mw).number ≡ 15
      → NamesFirst b d (first b time p d session mw) mw (reply b time p d session mw).first (reply b time p d session mw).second
  unfolding refusal shortage_of
  reply_names e =
      let n = is_fifteen e in
      subst⁻¹ (λ (s : Step). NamesFirst b d (first b time p d session mw) mw s.reply.first s.reply.second)
      (refused_step b (bid b time p d session mw) (ap (λ (k : ℕ). eqb k 0) n)) (rw n (named n))

pub short_rule : ShortRule
short_rule b w time p d session mw =
    record {
      when_short = when_short b time p d session mw;
      only_then = λ e.
          let n = is_fifteen b time p d session mw e in
          short_hour_lem b d _ mw _ _ (omega (arith, direction_known b time p d session mw n, w.directions)) (named b time p d session mw n);
      names_first = reply_names b time p d session mw;
    }
