-- What holds of every book that calls have made: the tables' limits, the sizes of the lists, and no MW above 9,999.
-- Assumes nothing.
use Prim.Native.Nat.{ℕ, zero, suc, ◌+◌, ◌-◌, ◌/◌, ◌%◌, ◌≤◌, ◌<◌, zero-le}
use mathlib.Core.Path.{◌≡◌, refl, sym, ap, ◌∙◌}
use mathlib.Core.Bool.{Bool, true, false, cond, ◌||◌, ◌&&◌, not, true≢false}
use mathlib.Core.List.{List, [], ◌∷◌, ◌++◌}
use native.Mathlib.Nat.{add-zero, zero-add, suc-add, add-suc}
use native.Mathlib.Omega.{arith}
use lib.Dec.{eqb, leb, ltb}
use lib.ListN.{length, get_or, set, length-append, length-set, replicate, length-replicate, get_or-eq_default}
use lib.Seq.{get_or-set_same, get_or-set_other}
use borrow.Author.Tests.{eqb-true, eqb-false, leb-false, ltb-true, ltb-false}
use Rattle.rules.specs.Basics.{has}
use Rattle.rules.specs.Sessions.{first_hour}
use Rattle.rules.specs.Windows.{latest}
use Rattle.rules.specs.Book.{Day, Direction, Party, Right, Pair, Book, direction, place, of_profile, opened, pair_limit, party_limit, right_limit}
use Rattle.rules.specs.Calls.{Call, AddDirection, AddProfile, AddParty, OfferDirection, OfferProfile, Bid, Nominate, Match}
use Rattle.rules.specs.Bids.{is_short, shortage, share, with_bid, is_right_of, right_taken, added_right, with_right}
use Rattle.rules.specs.Nominations.{out_of, into_of, is_pair_of, pair_taken, with_pair}
use Rattle.rules.specs.Refusals.{order, refuses, field, setup_shut, full, unknown, hour_unknown, shortage_of}
use Rattle.rules.specs.Effects.{is_timed, directions_after, profiles_after, parties_after, offered_after, granted_after, rights_after, pairs_after, effect}
use Rattle.rules.specs.Demand3.{WithinLimits}
use Rattle.rules.proofs.Bools.{or_left, or_right, or-true}
use Rattle.rules.proofs.Decisions.{Granted, fails}
use Rattle.rules.proofs.Histories.{after, AllGranted}
use Rattle.rules.proofs.Shortages.{bid_fits}

-- ---- set-up is shut

-- set-up that a started book keeps
pub record Kept (b b' : Book) : Type 0 where
  pub started : b'.started ≡ true
  pub directions : b'.directions ≡ b.directions
  pub profiles : b'.profiles ≡ b.profiles

kept_step : (b : Book) (c : Call) → Granted b c → b.started ≡ true → Kept b (effect b c)
unfolding order has refuses setup_shut effect is_timed directions_after profiles_after
kept_step b (AddDirection o i m) g s = absurd (true≢false (sym s ∙ fails g 4 tt))
kept_step b (AddProfile map) g s = absurd (true≢false (sym s ∙ fails g 4 tt))
kept_step b (AddParty code access) g s = absurd (true≢false (sym s ∙ fails g 4 tt))
kept_step b (OfferDirection time d hour mw) g s = record { started = rw s; directions = refl; profiles = refl }
kept_step b (OfferProfile time p hour mw) g s = record { started = rw s; directions = refl; profiles = refl }
kept_step b (Bid time p d session mw) g s = record { started = rw s; directions = refl; profiles = refl }
kept_step b (Nominate time sender other r side mw) g s = record { started = rw s; directions = refl; profiles = refl }
kept_step b (Match time d session) g s = record { started = rw s; directions = refl; profiles = refl }

kept : (b : Book) (cs : List Call) → AllGranted b cs → b.started ≡ true → Kept b (after b cs)
kept b [] g s = record { started = s; directions = refl; profiles = refl }
kept b (c ∷ cs) g s =
    let k : Kept b (effect b c) = kept_step b c g.0 s in
    let r : Kept (effect b c) (after (effect b c) cs) = kept (effect b c) cs g.1 k.started in
    record { started = r.started; directions = r.directions ∙ k.directions; profiles = r.profiles ∙ k.profiles }

-- after a granted bid
pub bid_kept : (b : Book) (time p d session : ℕ) (mw : List ℕ) (cs : List Call) → AllGranted (effect b (Bid time p d session mw)) cs
    → Kept b (after (effect b (Bid time p d session mw)) cs)
unfolding effect is_timed directions_after profiles_after
bid_kept b time p d session mw cs g =
    let k : Kept (effect b (Bid time p d session mw)) (after (effect b (Bid time p d session mw)) cs) =
    kept (effect b (Bid time p d session mw)) cs g (or-true b.started) in
    record { started = k.started; directions = k.directions; profiles = k.profiles }

-- ---- the invariant

-- over the parts of a book, so that a call which leaves a part alone leaves its proof alone
pub record Tables (n : ℕ) (ds : List Direction) (maps : List ℕ) (ps : List Party) : Type 0 where
  pub hours_from : 23 ≤ n
  pub hours_to : n ≤ 25
  pub directions : length ds ≤ 24
  pub profiles : length maps ≤ 8
  pub parties : length ps ≤ party_limit

-- granted MW may be above the offer, but each bid fitted the offer of its moment
pub record Capacities (offers grants : List ℕ) : Type 0 where
  pub offered : length offers ≡ 800
  pub granted : length grants ≡ 800
  pub offers_within : (i : ℕ) → get_or offers i 0 ≤ 9999
  pub grants_within : (i : ℕ) → get_or grants i 0 ≤ 9999

pub record Entries (rs : List Right) (ps : List Pair) : Type 0 where
  pub rights : length rs ≤ right_limit
  pub pairs : length ps ≤ pair_limit

abbrev pub Sound : Book → Type 0
Sound b = Tables b.day.hours b.directions b.profiles b.parties × Capacities b.offered b.granted × Entries b.rights b.pairs

pub limits : (b : Book) → Sound b → WithinLimits b
limits b s =
    record {
      directions = s.0.directions;
      profiles = s.0.profiles;
      parties = s.0.parties;
      rights = s.2.rights;
      pairs = s.2.pairs;
    }

-- ---- the place of a row and an hour that are there

pub record There (row hour : ℕ) : Type 0 where
  pub rows : row < 32
  pub from : 1 ≤ hour
  pub to : hour ≤ 25

there : (b : Book) → Sound b → (row count most hour : ℕ) → (leb count row || hour_unknown b hour) ≡ false → count ≤ most
    → (offset : ℕ) → offset + most ≤ 32 → There (offset + row) hour
unfolding hour_unknown
there b s row count most hour e c offset o =
    let p = leb-false count row (or_left _ _ e) in
    let h = or_right (leb count row) _ e in
    let f = ltb-false hour 1 (or_left _ _ h) in
    let t = ltb-false b.day.hours hour (or_right (ltb hour 1) _ h) in
    record { rows = omega arith; from = f; to = omega (arith, s.0.hours_to) }

pub direction_there : (b : Book) → Sound b → (d hour : ℕ) → (leb (length b.directions) d || hour_unknown b hour) ≡ false → There d hour
direction_there b s d hour e = rw zero-add at (there b s d (length b.directions) 24 hour e s.0.directions 0 (omega arith))

pub profile_there : (b : Book) → Sound b → (p hour : ℕ) → (leb (length b.profiles) p || hour_unknown b hour) ≡ false → There (of_profile p) hour
profile_there b s p hour e = there b s p (length b.profiles) 8 hour e s.0.profiles 24 (omega arith)

-- ---- offers

offer_capacities : (offers grants : List ℕ) (j mw : ℕ) → Capacities offers grants → j < 800 → mw ≤ 9999 → Capacities (set offers j mw) grants
offer_capacities offers grants j mw s l m =
    record {
      offered = length-set offers j mw ∙ s.offered;
      granted = s.granted;
      offers_within = λ i. at i (eqb i j) refl;
      grants_within = s.grants_within;
    }
  where
    at : (i : ℕ) (t : Bool) → eqb i j ≡ t → get_or (set offers j mw) i 0 ≤ 9999
    at i true e = rw (eqb-true i j e, get_or-set_same offers j mw 0 (omega (arith, s.offered))) m
    at i false e = rw (get_or-set_other offers j i mw 0 (eqb-false i j e)) (s.offers_within i)

-- ---- the granted MW with a bid

module _ (maps : List ℕ) (d first : ℕ) (mw : List ℕ) where
  length-with_bid : (i : ℕ) (l : List ℕ) → length (with_bid maps d first mw i l) ≡ length l
  unfolding with_bid
  length-with_bid i [] = refl
  length-with_bid i (x ∷ xs) = ap suc (length-with_bid (suc i) xs)

  get_or-from : (i : ℕ) (l : List ℕ) (k : ℕ) → k < length l
      → get_or (with_bid maps d first mw i l) k 0 ≡ get_or l k 0 + share maps d first mw ((i + k) / 25) (1 + (i + k) % 25)
  unfolding with_bid
  get_or-from i [] k h = absurd (omega arith)
  get_or-from i (x ∷ xs) zero h = rw add-zero
  get_or-from i (x ∷ xs) (suc k) h = rw (add-suc i k, ← suc-add i k) (get_or-from (suc i) xs k (omega arith))

  pub get_or-with_bid : (l : List ℕ) (k : ℕ) → k < length l
      → get_or (with_bid maps d first mw 0 l) k 0 ≡ get_or l k 0 + share maps d first mw (k / 25) (1 + k % 25)
  get_or-with_bid l k h = rw zero-add at (get_or-from 0 l k h)

  -- past the end
  past-with_bid : (l : List ℕ) (k : ℕ) → length l ≤ k → get_or (with_bid maps d first mw 0 l) k 0 ≡ 0
  past-with_bid l k h = get_or-eq_default (with_bid maps d first mw 0 l) 0 {n = k} (omega (arith, length-with_bid 0 l))

  -- no cell falls
  pub grows : (l : List ℕ) (k : ℕ) → get_or l k 0 ≤ get_or (with_bid maps d first mw 0 l) k 0
  grows l k = go (ltb k (length l)) refl
    where
      go : (t : Bool) → ltb k (length l) ≡ t → get_or l k 0 ≤ get_or (with_bid maps d first mw 0 l) k 0
      go true e = rw (get_or-with_bid l k (ltb-true k (length l) e)) (omega arith)
      go false e = rw (get_or-eq_default l 0 {n = k} (ltb-false k (length l) e)) zero-le

bid_capacities : (b : Book) (d first : ℕ) (mw : List ℕ) → Capacities b.offered b.granted → is_short (shortage b d first mw) ≡ false
    → Capacities b.offered (with_bid b.profiles d first mw 0 b.granted)
bid_capacities b d first mw s e =
    record {
      offered = s.offered;
      granted = length-with_bid b.profiles d first mw 0 b.granted ∙ s.granted;
      offers_within = s.offers_within;
      grants_within = λ i. go i (ltb i 800) refl;
    }
  where
    -- with nothing left, the bid takes nothing
    go : (i : ℕ) (t : Bool) → ltb i 800 ≡ t → get_or (with_bid b.profiles d first mw 0 b.granted) i 0 ≤ 9999
    go i true q =
        let l = ltb-true i 800 q in
        let f = bid_fits b d first mw e (i / 25) (1 + i % 25) in
        let p : place (i / 25) (1 + i % 25) ≡ i = omega arith in
        let f' : share b.profiles d first mw (i / 25) (1 + i % 25) ≤ get_or b.offered i 0 - get_or b.granted i 0 = rw p at f in
        rw (get_or-with_bid b.profiles d first mw b.granted i (omega (arith, s.granted))) (omega (arith, s.offers_within i, s.grants_within i))
    go i false q =
        let l = ltb-false i 800 q in
        rw (past-with_bid b.profiles d first mw b.granted i (omega (arith, s.granted))) zero-le

-- ---- rights and pairs

-- a table within its limit that is not full where a new entry is needed
not_above : (most n : ℕ) (need : Bool) → (leb most n && need) ≡ false → n ≤ most → cond need (suc n) n ≤ most
not_above most n false e h = h
not_above most n true e h = go (leb most n) refl
  where
    go : (t : Bool) → leb most n ≡ t → suc n ≤ most
    go true t = absurd (true≢false (rw t at e))
    go false t = leb-false most n t

length_one_more : {A : Type 0} (xs : List A) (x : A) → length (xs ++ (x ∷ [])) ≡ suc (length xs)
length_one_more xs x = rw length-append (omega arith)

length-added : (h d s : ℕ) (mw : List ℕ) (rs : List Right)
    → length (added_right h d s mw rs) ≡ cond (not (right_taken h d s rs)) (suc (length rs)) (length rs)
unfolding added_right right_taken
length-added h d s mw [] = refl
length-added h d s mw (x ∷ xs) = go (is_right_of h d s x) refl (right_taken h d s xs) refl (length-added h d s mw xs)
  where
    go : (t : Bool) → is_right_of h d s x ≡ t → (u : Bool) → right_taken h d s xs ≡ u
        → length (added_right h d s mw xs) ≡ cond (not (right_taken h d s xs)) (suc (length xs)) (length xs)
        → length (added_right h d s mw (x ∷ xs)) ≡ cond (not (right_taken h d s (x ∷ xs))) (suc (suc (length xs))) (suc (length xs))
    go true t u q rest = rw t
    go false t true q rest = rw (t, q) (ap suc (rest ∙ rw q))
    go false t false q rest = rw (t, q) (ap suc (rest ∙ rw q))

length-with : (model h d s : ℕ) (mw : List ℕ) (rs : List Right)
    → length (with_right model h d s mw rs) ≡ cond (eqb model 1 || not (right_taken h d s rs)) (suc (length rs)) (length rs)
unfolding with_right
length-with model h d s mw rs = go (eqb model 1) refl
  where
    go : (t : Bool) → eqb model 1 ≡ t
        → length (with_right model h d s mw rs) ≡ cond (eqb model 1 || not (right_taken h d s rs)) (suc (length rs)) (length rs)
    go true t = rw (t, with_right) (length_one_more rs _)
    go false t = rw (t, with_right) (length-added h d s mw rs)

length_pairs : (r o i side : ℕ) (mw : List ℕ) (ps : List Pair)
    → length (with_pair r o i side mw ps) ≡ cond (not (pair_taken r o i ps)) (suc (length ps)) (length ps)
unfolding with_pair pair_taken
length_pairs r o i side mw [] = refl
length_pairs r o i side mw (x ∷ xs) = go (is_pair_of r o i x) refl (pair_taken r o i xs) refl (length_pairs r o i side mw xs)
  where
    go : (t : Bool) → is_pair_of r o i x ≡ t → (u : Bool) → pair_taken r o i xs ≡ u
        → length (with_pair r o i side mw xs) ≡ cond (not (pair_taken r o i xs)) (suc (length xs)) (length xs)
        → length (with_pair r o i side mw (x ∷ xs)) ≡ cond (not (pair_taken r o i (x ∷ xs))) (suc (suc (length xs))) (suc (length xs))
    go true t u q rest = rw t
    go false t true q rest = rw (t, q) (ap suc (rest ∙ rw q))
    go false t false q rest = rw (t, q) (ap suc (rest ∙ rw q))

-- ---- a granted call keeps the invariant

one_more : {A : Type 0} (xs : List A) (x : A) (most : ℕ) → leb most (length xs) ≡ false → length (xs ++ (x ∷ [])) ≤ most
one_more xs x most e = rw (length_one_more xs x) (leb-false most (length xs) e)

pub sound_step : (b : Book) (c : Call) → Granted b c → Sound b → Sound (effect b c)
unfolding order has refuses field full unknown shortage_of effect directions_after profiles_after parties_after offered_after granted_after rights_after pairs_after
sound_step b (AddDirection o i m) g s = (
  record {
    hours_from = s.0.hours_from;
    hours_to = s.0.hours_to;
    directions = one_more b.directions _ 24 (fails g 13 tt);
    profiles = s.0.profiles;
    parties = s.0.parties;
  },
  s.1,
  s.2,
)
sound_step b (AddProfile map) g s = (
  record {
    hours_from = s.0.hours_from;
    hours_to = s.0.hours_to;
    directions = s.0.directions;
    profiles = one_more b.profiles map 8 (fails g 13 tt);
    parties = s.0.parties;
  },
  s.1,
  s.2,
)
sound_step b (AddParty code access) g s = (
  record {
    hours_from = s.0.hours_from;
    hours_to = s.0.hours_to;
    directions = s.0.directions;
    profiles = s.0.profiles;
    parties = one_more b.parties _ party_limit (fails g 13 tt);
  },
  s.1,
  s.2,
)
sound_step b (OfferDirection time d hour mw) g s =
    let t = direction_there b s d hour (fails g 6 tt) in (
      s.0,
      offer_capacities b.offered b.granted (place d hour) mw s.1 (omega arith)
          (ltb-false 9999 mw (or_right (ltb latest time) _ (fails g 3 tt))),
      s.2,
    )
sound_step b (OfferProfile time p hour mw) g s =
    let t = profile_there b s p hour (fails g 6 tt) in (
      s.0,
      offer_capacities b.offered b.granted (place (of_profile p) hour) mw s.1 (omega arith)
          (ltb-false 9999 mw (or_right (ltb latest time) _ (fails g 3 tt))),
      s.2,
    )
sound_step b (Bid time p d session mw) g s =
    let model : ℕ = (direction b.directions d).model in (
      s.0,
      bid_capacities b d (first_hour b.day.hours model session) mw s.1 (fails g 15 tt),
      record {
        rights = rw (length-with model p d session mw b.rights) (not_above right_limit (length b.rights) _ (fails g 13 tt) s.2.rights);
        pairs = s.2.pairs;
      },
    )
sound_step b (Nominate time sender other r side mw) g s = (
  s.0,
  s.1,
  record {
    rights = s.2.rights;
    pairs = rw (length_pairs r (out_of sender other side) (into_of sender other side) side mw b.pairs) (not_above pair_limit (length b.pairs) _ (fails g 13 tt) s.2.pairs);
  },
)
sound_step b (Match time d session) g s = s

pub sound_after : (b : Book) (cs : List Call) → AllGranted b cs → Sound b → Sound (after b cs)
sound_after b [] g s = s
sound_after b (c ∷ cs) g s = sound_after (effect b c) cs g.1 (sound_step b c g.0 s)

-- in a list of zeros every entry is 0, and past its end too
no_cell : (n i : ℕ) → ◌≡◌ {A = ℕ} (get_or (replicate n 0) i 0) 0
no_cell zero i = refl
no_cell (suc n) zero = refl
no_cell (suc n) (suc i) = no_cell n i

pub sound_opened : (day : Day) → 23 ≤ day.hours → day.hours ≤ 25 → Sound (opened day)
unfolding opened
sound_opened day f t = (
  record { hours_from = f; hours_to = t; directions = zero-le; profiles = zero-le; parties = zero-le },
  record {
    offered = length-replicate {A = ℕ} 800 0;
    granted = length-replicate {A = ℕ} 800 0;
    offers_within = λ i. rw (no_cell 800 i) zero-le;
    grants_within = λ i. rw (no_cell 800 i) zero-le;
  },
  record { rights = zero-le; pairs = zero-le },
)
