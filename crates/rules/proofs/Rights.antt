-- Demand 3, rights: they are those that the granted bids make, and in each direction and hour they add up to the MW of those bids.
-- Assumes nothing.
use Prim.Native.Nat.{ℕ, ◌+◌, ◌-◌, ◌≤◌, ◌<◌}
use mathlib.Core.Path.{◌≡◌, refl, sym, ap, ◌∙◌}
use mathlib.Core.Bool.{Bool, true, false, cond, ◌&&◌, not}
use mathlib.Core.List.{List, [], ◌∷◌}
use native.Mathlib.Nat.{add-zero, zero-add, add_assoc}
use native.Mathlib.Omega.{arith}
use lib.Dec.{eqb, leb}
use borrow.Author.Tests.{eqb-true, lt-ltb}
use Rattle.rules.specs.Basics.{mw_at}
use Rattle.rules.specs.Sessions.{first_hour}
use Rattle.rules.specs.Book.{Day, Direction, Right, Book, direction, opened, holds}
use Rattle.rules.specs.Calls.{Call, AddDirection, AddProfile, AddParty, OfferDirection, OfferProfile, Bid, Nominate, Match}
use Rattle.rules.specs.Effects.{rights_after, effect}
use Rattle.rules.specs.Run.{run}
use Rattle.rules.specs.History.{directions_of, bid_mw, bid_sum, added, rights_with, rights_then, rights_from, right_sum}
use Rattle.rules.proofs.Bools.{and_left, and_right}
use Rattle.rules.proofs.Decisions.{Granted}
use Rattle.rules.proofs.Histories.{after, AllGranted, history, run_follows}
use Rattle.rules.proofs.Books.{bid_kept, Sound, sound_step, sound_opened}
use Rattle.rules.proofs.RightsFit.{get_or-added, RightsFit, with_plain, fit_step, fit_opened}
use Rattle.rules.proofs.Capacity.{directions_after_lem}

-- ---- the rights are those of the granted bids

-- a step of the book is one of the history, whose directions are those at the end
one_step : (b : Book) (c : Call) (cs : List Call) → Granted b c → Sound b → RightsFit b → AllGranted (effect b c) cs
    → rights_after b.directions b.rights c ≡ rights_then (after (effect b c) cs).directions b.rights c
unfolding rights_after
one_step b (AddDirection o i m) cs g s f gs = refl
one_step b (AddProfile map) cs g s f gs = refl
one_step b (AddParty code access) cs g s f gs = refl
one_step b (OfferDirection time d h mw) cs g s f gs = refl
one_step b (OfferProfile time k h mw) cs g s f gs = refl
one_step b (Bid time k d session mw) cs g s f gs =
    rw (bid_kept b time k d session mw cs gs).directions (with_plain b s time k d session mw g f)
one_step b (Nominate time sender other r side mw) cs g s f gs = refl
one_step b (Match time d session) cs g s f gs = refl

rights_after_lem : (b : Book) (cs : List Call) → AllGranted b cs → Sound b → RightsFit b
    → (after b cs).rights ≡ rights_from (after b cs).directions b.rights cs
unfolding rights_from effect
rights_after_lem b [] g s f = refl
rights_after_lem b (c ∷ cs) g s f =
    rights_after_lem (effect b c) cs g.1 (sound_step b c g.0 s) (fit_step b c g.0 s f)
    ∙ ap (λ rs. rights_from (after (effect b c) cs).directions rs cs) (one_step b c cs g.0 s f g.1)

pub fit_after : (b : Book) (cs : List Call) → AllGranted b cs → Sound b → RightsFit b → RightsFit (after b cs)
fit_after b [] g s f = f
fit_after b (c ∷ cs) g s f = fit_after (effect b c) cs g.1 (sound_step b c g.0 s) (fit_step b c g.0 s f)

pub rights : (day : Day) → 23 ≤ day.hours → day.hours ≤ 25 → (cs : List Call)
    → let gs : List Call = history (opened day) cs in
    (run (opened day) cs).book.rights ≡ rights_from (directions_of gs) [] gs
unfolding opened
rights day f t cs =
    let b : Book = opened day in
    let gs : List Call = history b cs in
    let w = run_follows b cs in
    rw (w.book, rights_after_lem b gs w.granted (sound_opened day f t) (fit_opened day), directions_after_lem b gs)

-- ---- sums

mw_at-added : (first : ℕ) (xs ys : List ℕ) (hour : ℕ) → mw_at first (added xs ys) hour ≡ mw_at first xs hour + mw_at first ys hour
unfolding mw_at
mw_at-added first xs ys hour = go (leb first hour) refl
  where
    go : (t : Bool) → leb first hour ≡ t → mw_at first (added xs ys) hour ≡ mw_at first xs hour + mw_at first ys hour
    go true e = rw (e, mw_at) (get_or-added xs ys (hour - first))
    go false e = rw (e, mw_at)

module _ (n : ℕ) (ds : List Direction) (d hour : ℕ) where
  -- the MW that a right of direction e and session s counts for direction d
  abbrev one : ℕ → ℕ → List ℕ → ℕ
  one e s mw = cond (eqb d e) (mw_at (first_hour n (direction ds d).model s) mw hour) 0

  one_added : (e s : ℕ) (xs ys : List ℕ) → one e s (added xs ys) ≡ one e s xs + one e s ys
  one_added e s xs ys = go (eqb d e)
    where
      go : (t : Bool) → cond t (mw_at (first_hour n (direction ds d).model s) (added xs ys) hour) 0
          ≡ cond t (mw_at (first_hour n (direction ds d).model s) xs hour) 0 + cond t (mw_at (first_hour n (direction ds d).model s) ys hour) 0
      go true = mw_at-added (first_hour n (direction ds d).model s) xs ys hour
      go false = refl

  sum_with : (model h e s : ℕ) (mw : List ℕ) (rs : List Right) → right_sum n ds d hour (rights_with model h e s mw rs) ≡ right_sum n ds d hour rs + one e s mw
  unfolding right_sum rights_with
  sum_with model h e s mw [] = omega arith
  sum_with model h e s mw (x ∷ rs) =
      go (not (eqb model 1) && eqb x.holder h && eqb x.direction e && eqb x.session s) refl (sum_with model h e s mw rs)
    where
      go : (t : Bool) → (not (eqb model 1) && eqb x.holder h && eqb x.direction e && eqb x.session s) ≡ t
          → right_sum n ds d hour (rights_with model h e s mw rs) ≡ right_sum n ds d hour rs + one e s mw
          → right_sum n ds d hour (rights_with model h e s mw (x ∷ rs)) ≡ right_sum n ds d hour (x ∷ rs) + one e s mw
      go true t rest =
          let a = eqb-true x.direction e (and_right (not (eqb model 1) && eqb x.holder h) _ (and_left _ _ t)) in
          let z = eqb-true x.session s (and_right (not (eqb model 1) && eqb x.holder h && eqb x.direction e) _ t) in
          rw (t, ← a, ← z, one_added x.direction x.session x.mw mw) (omega arith)
      go false t rest = rw (t, rest) (sym (add_assoc _ _ _))

  -- for a direction, a bid's MW are what its right has more
  one_bid : (maps : List ℕ) → d < 24 → (e s : ℕ) (mw : List ℕ)
      → one e s mw ≡ cond (holds maps e d) (mw_at (first_hour n (direction ds e).model s) mw hour) 0
  unfolding holds
  one_bid maps l e s mw = rw (lt-ltb d 24 l) (go (eqb d e) refl)
    where
      go : (t : Bool) → eqb d e ≡ t
          → cond t (mw_at (first_hour n (direction ds d).model s) mw hour) 0 ≡ cond t (mw_at (first_hour n (direction ds e).model s) mw hour) 0
      go true t = rw (eqb-true d e t)
      go false t = refl

  module _ (maps : List ℕ) (l : d < 24) where
    sum_step : (rs : List Right) (c : Call) → right_sum n ds d hour (rights_then ds rs c) ≡ right_sum n ds d hour rs + bid_mw n ds maps d hour c
    unfolding bid_mw
    sum_step rs (AddDirection o i m) = sym (add-zero _)
    sum_step rs (AddProfile map) = sym (add-zero _)
    sum_step rs (AddParty code access) = sym (add-zero _)
    sum_step rs (OfferDirection time e h mw) = sym (add-zero _)
    sum_step rs (OfferProfile time k h mw) = sym (add-zero _)
    sum_step rs (Bid time k e session mw) = rw (sum_with (direction ds e).model k e session mw rs, one_bid maps l e session mw)
    sum_step rs (Nominate time sender other r side mw) = sym (add-zero _)
    sum_step rs (Match time e session) = sym (add-zero _)

    pub sum_from : (rs : List Right) (cs : List Call) → right_sum n ds d hour (rights_from ds rs cs) ≡ right_sum n ds d hour rs + bid_sum n ds maps d hour cs
    unfolding rights_from bid_sum
    sum_from rs [] = sym (add-zero _)
    sum_from rs (c ∷ cs) = rw (sum_from (rights_then ds rs c) cs, sum_step rs c) (add_assoc _ _ _)

-- in each direction and hour the rights add up to the MW of the granted bids
pub right_sums : (n : ℕ) (ds : List Direction) (maps : List ℕ) (d hour : ℕ) → d < 24 → (gs : List Call)
    → right_sum n ds d hour (rights_from ds [] gs) ≡ bid_sum n ds maps d hour gs
right_sums n ds maps d hour l gs = sum_from n ds d hour maps l [] gs ∙ unfold right_sum in zero-add _
