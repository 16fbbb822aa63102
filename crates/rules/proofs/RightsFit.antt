-- In each hour a right has at most the MW granted on its direction, so the sum of a standing right and a bid never wraps.
-- Assumes nothing.
use Prim.Native.Nat.{ℕ, zero, suc, ◌+◌, ◌-◌, ◌≤◌, ◌<◌, zero-le}
use mathlib.Core.Path.{◌≡◌, refl, sym, ap, ◌∙◌}
use mathlib.Core.Bool.{Bool, true, false, cond, ◌||◌, ◌&&◌, not}
use mathlib.Core.List.{List, [], ◌∷◌, ◌++◌}
use native.Mathlib.Nat.{zero-add, add-zero, le_trans, mod-eq_of_lt}
use native.Mathlib.Omega.{arith}
use lib.Dec.{eqb, leb, ltb}
use lib.ListN.{length, get_or, get_or-append, length-append}
use borrow.Author.Tests.{eqb-true, leb-false, ltb-true, ltb-false, le-leb, not-false}
use Rattle.rules.specs.Basics.{has, mw_at}
use Rattle.rules.specs.Sessions.{session_there, first_hour, hours_in}
use Rattle.rules.specs.Book.{Day, Direction, Right, Book, direction, place, opened, model_of}
use Rattle.rules.specs.Calls.{Call, AddDirection, AddProfile, AddParty, OfferDirection, OfferProfile, Bid, Nominate, Match}
use Rattle.rules.specs.Bids.{share, with_bid, cell_values, wrap_added, is_right_of, added_right, with_right}
use Rattle.rules.specs.Refusals.{order, refuses, unknown, wrong_hours, hours_lacking}
use Rattle.rules.specs.Effects.{directions_after, granted_after, rights_after, effect}
use Rattle.rules.specs.History.{added, rights_with}
use Rattle.rules.proofs.Bools.{or_left, or_right, and_left, and_right}
use Rattle.rules.proofs.Above.{zeros_from}
use Rattle.rules.proofs.Decisions.{Granted, fails}
use Rattle.rules.proofs.Places.{place_row, place_hour}
use Rattle.rules.proofs.Sessions.{hours_there}
use Rattle.rules.proofs.Shortages.{holds_direction}
use Rattle.rules.proofs.Books.{Sound, get_or-with_bid, grows, sound_step}

-- ---- MW hour by hour

pub get_or-added : (xs ys : List ℕ) (k : ℕ) → get_or (added xs ys) k 0 ≡ get_or xs k 0 + get_or ys k 0
unfolding added
get_or-added [] ys k = sym (zero-add _)
get_or-added (x ∷ xs) [] k = sym (add-zero _)
get_or-added (x ∷ xs) (y ∷ ys) zero = refl
get_or-added (x ∷ xs) (y ∷ ys) (suc k) = get_or-added xs ys k

wrap_plain : (xs ys : List ℕ) → ((k : ℕ) → get_or xs k 0 + get_or ys k 0 < cell_values) → wrap_added xs ys ≡ added xs ys
unfolding wrap_added added
wrap_plain [] ys h = refl
wrap_plain (x ∷ xs) [] h = refl
wrap_plain (x ∷ xs) (y ∷ ys) h = rw (mod-eq_of_lt (h 0), wrap_plain xs ys (λ k. h (suc k)))

-- ---- the MW granted on a right's direction, in hour k of its session

unfoldable pub room : ℕ → List Direction → List ℕ → ℕ → ℕ → ℕ → ℕ
room n ds grants d s k =
    cond (ltb k (hours_in n (direction ds d).model s)) (get_or grants (place d (first_hour n (direction ds d).model s + k)) 0) 0

pub record Fits (n : ℕ) (ds : List Direction) (grants : List ℕ) (x : Right) : Type 0 where
  pub known : x.direction < length ds
  pub is_there : session_there n (direction ds x.direction).model x.session ≡ true
  pub mw : (k : ℕ) → get_or x.mw k 0 ≤ room n ds grants x.direction x.session k

abbrev pub AllFit : ℕ → List Direction → List ℕ → List Right → Type 0
AllFit n ds grants [] = Unit {0}
AllFit n ds grants (x ∷ xs) = Fits n ds grants x × AllFit n ds grants xs

abbrev pub RightsFit : Book → Type 0
RightsFit b = AllFit b.day.hours b.directions b.granted b.rights

-- ---- what leaves the rights alone

room_grows : (n : ℕ) (ds : List Direction) (grants grants' : List ℕ) → ((i : ℕ) → get_or grants i 0 ≤ get_or grants' i 0)
    → (d s k : ℕ) → room n ds grants d s k ≤ room n ds grants' d s k
unfolding room
room_grows n ds grants grants' h d s k = go (ltb k (hours_in n (direction ds d).model s))
  where
    go : (t : Bool) → cond t (get_or grants (place d (first_hour n (direction ds d).model s + k)) 0) 0
        ≤ cond t (get_or grants' (place d (first_hour n (direction ds d).model s + k)) 0) 0
    go true = h _
    go false = zero-le

grown : (n : ℕ) (ds : List Direction) (grants grants' : List ℕ) → ((i : ℕ) → get_or grants i 0 ≤ get_or grants' i 0)
    → (x : Right) → Fits n ds grants x → Fits n ds grants' x
grown n ds grants grants' h x f =
    record { known = f.known; is_there = f.is_there; mw = λ k. le_trans (f.mw k) (room_grows n ds grants grants' h x.direction x.session k) }

more_directions : (n : ℕ) (ds : List Direction) (y : Direction) (grants : List ℕ) (rs : List Right) → AllFit n ds grants rs → AllFit n (ds ++ (y ∷ [])) grants rs
unfolding room
more_directions n ds y grants [] a = tt
more_directions n ds y grants (x ∷ rs) a =
    let e : direction (ds ++ (y ∷ [])) x.direction ≡ direction ds x.direction = get_or-append ds (y ∷ []) _ x.direction a.0.known in (
      record {
        known = rw length-append (omega (arith, a.0.known));
        is_there = rw e a.0.is_there;
        mw = λ k. rw e (a.0.mw k);
      },
      more_directions n ds y grants rs a.1,
    )

-- ---- a granted bid

module _ (b : Book) (w : Sound b) (time p d session : ℕ) (mw : List ℕ) (g : Granted b (Bid time p d session mw)) where
  abbrev n : ℕ
  n = b.day.hours

  abbrev model : ℕ
  model = model_of b d

  abbrev first : ℕ
  first = first_hour n model session

  abbrev grants : List ℕ
  grants = with_bid b.profiles d first mw 0 b.granted

  direction_known : d < length b.directions
  unfolding order has refuses unknown
  direction_known = leb-false (length b.directions) d (or_right (leb (length b.parties) p) _ (or_left _ _ (fails g 6 tt)))

  pub session_known : session_there n model session ≡ true
  unfolding order has refuses unknown
  session_known = not-false _ (or_right (leb (length b.parties) p || leb (length b.directions) d) _ (fails g 6 tt))

  -- MW for an hour that the session lacks are 0
  pub lacking : (k : ℕ) → hours_in n model session ≤ k → get_or mw k 0 ≡ 0
  unfolding order has refuses wrong_hours hours_lacking
  lacking = zeros_from (hours_in n model session) mw (or_left _ _ (fails g 9 tt))

  share_is : (k : ℕ) → share b.profiles d first mw d (first + k) ≡ get_or mw k 0
  unfolding share mw_at
  share_is k =
      let q : first + k - first ≡ k = omega arith in
      rw (holds_direction b.profiles d (omega (arith, direction_known, w.0.directions)), le-leb first (first + k) (omega arith), q)

  room_more : (k : ℕ) → room n b.directions grants d session k ≡ room n b.directions b.granted d session k + get_or mw k 0
  unfolding room
  room_more k = go (ltb k (hours_in n model session)) refl
    where
      go : (t : Bool) → ltb k (hours_in n model session) ≡ t
          → cond t (get_or grants (place d (first + k)) 0) 0 ≡ cond t (get_or b.granted (place d (first + k)) 0) 0 + get_or mw k 0
      go true e =
          let h = hours_there n model session k w.0.hours_from w.0.hours_to session_known (ltb-true k (hours_in n model session) e) in
          let h' : first + k ≤ 25 = omega (arith, h.1, w.0.hours_to) in
          let l : d < 24 = omega (arith, direction_known, w.0.directions) in
          let i : place d (first + k) < length b.granted = omega (arith, w.1.granted, h.0) in
          get_or-with_bid b.profiles d first mw b.granted (place d (first + k)) i
          ∙ rw (place_row d (first + k) h.0 h', place_hour d (first + k) h.0 h') (ap (λ (y : ℕ). get_or b.granted (place d (first + k)) 0 + y) (share_is k))
      go false e = sym (rw (lacking k (ltb-false k (hours_in n model session) e)))

  -- no MW of a right are above 9,999
  room_bounded : (k : ℕ) → room n b.directions grants d session k ≤ 9999
  unfolding room effect granted_after
  room_bounded k = go (ltb k (hours_in n model session))
    where
      go : (t : Bool) → cond t (get_or grants (place d (first + k)) 0) 0 ≤ 9999
      go true =
          let s = sound_step b (Bid time p d session mw) g w in
          s.1.grants_within (place d (first + k))
      go false = zero-le

  -- the right of this direction and session, with the bid
  module _ (x : Right) (e : x.direction ≡ d) (z : x.session ≡ session) (f : Fits n b.directions b.granted x) where
    sum_fits : (k : ℕ) → get_or x.mw k 0 + get_or mw k 0 ≤ room n b.directions grants d session k
    sum_fits k =
        let h : get_or x.mw k 0 ≤ room n b.directions b.granted d session k = rw (e, z) at (f.mw k) in
        omega (arith, room_more k)

    never_wraps : wrap_added x.mw mw ≡ added x.mw mw
    never_wraps = wrap_plain x.mw mw (λ k. omega (arith, sum_fits k, room_bounded k))

  -- the test for a standing right, as the history writes it
  key : (h : ℕ) (x : Right) → is_right_of h d session x ≡ true → ((x.holder ≡ h) × (x.direction ≡ d)) × (x.session ≡ session)
  unfolding is_right_of
  key h x t = (
    (eqb-true x.holder h (and_left _ _ (and_left _ _ t)), eqb-true x.direction d (and_right (eqb x.holder h) _ (and_left _ _ t))),
    eqb-true x.session session (and_right (eqb x.holder h && eqb x.direction d) _ t),
  )

  -- one-hour model: a new right
  appended : (m : ℕ) → eqb m 1 ≡ true → (rs : List Right)
      → rs ++ (record { holder = p; direction = d; session = session; mw = mw } ∷ []) ≡ rights_with m p d session mw rs
  unfolding rights_with
  appended m t [] = refl
  appended m t (x ∷ rs) = rw t (ap (λ (l : List Right). x ∷ l) (appended m t rs))

  -- four-hour model: to the standing right
  joined : (m : ℕ) → eqb m 1 ≡ false → (rs : List Right) → AllFit n b.directions b.granted rs → added_right p d session mw rs ≡ rights_with m p d session mw rs
  unfolding added_right rights_with is_right_of
  joined m t [] a = refl
  joined m t (x ∷ rs) a = rw t (go (is_right_of p d session x) refl (joined m t rs a.1))
    where
      go : (u : Bool) → is_right_of p d session x ≡ u → added_right p d session mw rs ≡ rights_with m p d session mw rs
          → cond (is_right_of p d session x) (record { holder = x.holder; direction = x.direction; session = x.session; mw = wrap_added x.mw mw } ∷ rs) (x ∷ added_right p d session mw rs)
          ≡ cond (is_right_of p d session x) (record { holder = p; direction = d; session = session; mw = added x.mw mw } ∷ rs) (x ∷ rights_with m p d session mw rs)
      go true u rest =
          let k = key p x u in
          rw (u, never_wraps x k.0.1 k.1 a.0, k.0.0, k.0.1, k.1)
      go false u rest = rw (u, rest)

  pub with_plain : AllFit n b.directions b.granted b.rights → with_right model p d session mw b.rights ≡ rights_with model p d session mw b.rights
  unfolding with_right
  with_plain a = go (eqb model 1) refl
    where
      go : (t : Bool) → eqb model 1 ≡ t → with_right model p d session mw b.rights ≡ rights_with model p d session mw b.rights
      go true t = rw (t, with_right) (appended model t b.rights)
      go false t = rw (t, with_right) (joined model t b.rights a)

  new_fits : (mws : List ℕ) → ((k : ℕ) → get_or mws k 0 ≤ room n b.directions grants d session k)
      → Fits n b.directions grants (record { holder = p; direction = d; session = session; mw = mws })
  new_fits mws h = record { known = direction_known; is_there = session_known; mw = h }

  fit_with : (m : ℕ) (rs : List Right) → AllFit n b.directions b.granted rs → AllFit n b.directions grants (rights_with m p d session mw rs)
  unfolding rights_with
  fit_with m [] a = (new_fits mw (λ k. omega (arith, room_more k)), tt)
  fit_with m (x ∷ rs) a =
      go (not (eqb m 1) && eqb x.holder p && eqb x.direction d && eqb x.session session) refl (fit_with m rs a.1)
    where
      go : (t : Bool) → (not (eqb m 1) && eqb x.holder p && eqb x.direction d && eqb x.session session) ≡ t
          → AllFit n b.directions grants (rights_with m p d session mw rs) → AllFit n b.directions grants (rights_with m p d session mw (x ∷ rs))
      go true t rest =
          let e = eqb-true x.direction d (and_right (not (eqb m 1) && eqb x.holder p) _ (and_left _ _ t)) in
          let z = eqb-true x.session session (and_right (not (eqb m 1) && eqb x.holder p && eqb x.direction d) _ t) in
          rw t (new_fits (added x.mw mw) (λ k. rw (get_or-added x.mw mw k) (sum_fits x e z a.0 k)), others rs a.1)
        where
          others : (rs : List Right) → AllFit n b.directions b.granted rs → AllFit n b.directions grants rs
          others [] a = tt
          others (x ∷ rs) a = (grown n b.directions b.granted grants (grows b.profiles d first mw b.granted) x a.0, others rs a.1)
      go false t rest = rw t (grown n b.directions b.granted grants (grows b.profiles d first mw b.granted) x a.0, rest)

-- ---- the invariant

pub fit_step : (b : Book) (c : Call) → Granted b c → Sound b → RightsFit b → RightsFit (effect b c)
unfolding effect directions_after granted_after rights_after
fit_step b (AddDirection o i m) g w a = more_directions b.day.hours b.directions _ b.granted b.rights a
fit_step b (AddProfile map) g w a = a
fit_step b (AddParty code access) g w a = a
fit_step b (OfferDirection time d hour mw) g w a = a
fit_step b (OfferProfile time p hour mw) g w a = a
fit_step b (Bid time p d session mw) g w a =
    rw (with_plain b w time p d session mw g a) (fit_with b w time p d session mw g (model_of b d) b.rights a)
fit_step b (Nominate time sender other r side mw) g w a = a
fit_step b (Match time d session) g w a = a

pub fit_opened : (day : Day) → RightsFit (opened day)
unfolding opened
fit_opened day = tt
