-- Demand 3, matchings: a direction's session is matched exactly where a matching of it was granted.
-- Assumes nothing.
use Prim.Native.Nat.{ℕ, zero, suc, ◌≤◌, ◌<◌}
use mathlib.Core.Path.{◌≡◌, refl, sym, ◌∙◌}
use mathlib.Core.Bool.{Bool, true, false, cond, ◌||◌, ◌&&◌}
use mathlib.Core.List.{List, [], ◌∷◌}
use native.Mathlib.Nat.{le_of_suc-le-suc}
use native.Mathlib.Omega.{arith}
use lib.Dec.{eqb, leb}
use lib.ListN.{length, get_or, length-set, length-replicate, get_or-replicate}
use borrow.Author.Tests.{leb-false, not-false}
use Rattle.rules.specs.Basics.{has}
use Rattle.rules.specs.Sessions.{session_there}
use Rattle.rules.specs.Book.{Day, Direction, Right, Book, flag, right, opened, model_of}
use Rattle.rules.specs.Calls.{Call, AddDirection, AddProfile, AddParty, OfferDirection, OfferProfile, Bid, Nominate, Match}
use Rattle.rules.specs.Refusals.{order, refuses, unknown, is_matched}
use Rattle.rules.specs.Effects.{matched_after, effect}
use Rattle.rules.specs.History.{is_match_of, was_matched}
use Rattle.rules.proofs.Bools.{or_left, or_right, or-true}
use Rattle.rules.proofs.Decisions.{Granted, fails}
use Rattle.rules.proofs.Histories.{after, AllGranted, history, run_follows}
use Rattle.rules.proofs.Places.{stored}
use Rattle.rules.proofs.Sessions.{session_from, session_to}
use Rattle.rules.proofs.Books.{Sound, sound_step, sound_opened, sound_after}
use Rattle.rules.proofs.RightsFit.{Fits, AllFit, fit_opened}
use Rattle.rules.proofs.Rights.{fit_after}

-- ---- the flag of a direction and a session that are there

record There (d s : ℕ) : Type 0 where
  pub rows : d < 24
  pub from : 1 ≤ s
  pub to : s ≤ 25

session_there_lem : (b : Book) → Sound b → (d s : ℕ) → d < length b.directions → session_there b.day.hours (model_of b d) s ≡ true → There d s
session_there_lem b w d s l t =
    record {
      rows = omega (arith, w.0.directions);
      from = session_from b.day.hours (model_of b d) s t;
      to = session_to b.day.hours (model_of b d) s w.0.hours_to t;
    }

-- of a matching that is granted
match_there : (b : Book) → Sound b → (time d s : ℕ) → Granted b (Match time d s) → There d s
unfolding order has refuses unknown
match_there b w time d s g =
    let x = fails g 6 tt in
    session_there_lem b w d s (leb-false (length b.directions) d (or_left _ _ x)) (not-false _ (or_right (leb (length b.directions) d) _ x))

flags_step : (b : Book) (c : Call) → length b.matched ≡ 600 → length (matched_after b.matched c) ≡ 600
unfolding matched_after
flags_step b (AddDirection o i m) h = h
flags_step b (AddProfile map) h = h
flags_step b (AddParty code access) h = h
flags_step b (OfferDirection time d hour mw) h = h
flags_step b (OfferProfile time p hour mw) h = h
flags_step b (Bid time p d session mw) h = h
flags_step b (Nominate time sender other r side mw) h = h
flags_step b (Match time d session) h = length-set b.matched (flag d session) 1 ∙ h

or_assoc : (a b c : Bool) → ((a || b) || c) ≡ (a || (b || c))
or_assoc true b c = refl
or_assoc false b c = refl

or_false : (a : Bool) → (a || false) ≡ a
or_false true = refl
or_false false = refl

module _ (d s : ℕ) (t : There d s) where
  matched_step : (b : Book) (c : Call) → Granted b c → Sound b → length b.matched ≡ 600
      → is_matched (matched_after b.matched c) d s ≡ (is_matched b.matched d s || is_match_of d s c)
  unfolding matched_after is_match_of
  matched_step b (AddDirection o i m) g w h = sym (or_false _)
  matched_step b (AddProfile map) g w h = sym (or_false _)
  matched_step b (AddParty code access) g w h = sym (or_false _)
  matched_step b (OfferDirection time e hour mw) g w h = sym (or_false _)
  matched_step b (OfferProfile time p hour mw) g w h = sym (or_false _)
  matched_step b (Bid time p e session mw) g w h = sym (or_false _)
  matched_step b (Nominate time sender other r side mw) g w h = sym (or_false _)
  matched_step b (Match time e session) g w h =
      let u = match_there b w time e session g in
      unfold is_matched in
      rw (stored 24 b.matched h d s e session 1 t.rows t.from t.to u.rows u.from u.to)
      (go (eqb e d && eqb session s) (get_or b.matched (flag d s) 0))
    where
      go : (z : Bool) (was : ℕ) → eqb (cond z 1 was) 1 ≡ (eqb was 1 || z)
      go true was = sym (or-true (eqb was 1))
      go false was = sym (or_false _)

  matched_after_lem : (b : Book) (cs : List Call) → AllGranted b cs → Sound b → length b.matched ≡ 600
      → is_matched (after b cs).matched d s ≡ (is_matched b.matched d s || was_matched d s cs)
  unfolding was_matched effect
  matched_after_lem b [] g w h = sym (or_false _)
  matched_after_lem b (c ∷ cs) g w h =
      rw (matched_after_lem (effect b c) cs g.1 (sound_step b c g.0 w) (flags_step b c h), matched_step b c g.0 w h)
      (or_assoc (is_matched b.matched d s) (is_match_of d s c) (was_matched d s cs))

-- ---- each right's session

fits_at : (n : ℕ) (ds : List Direction) (grants : List ℕ) (rs : List Right) (r : ℕ) → AllFit n ds grants rs → r < length rs → Fits n ds grants (right rs r)
fits_at n ds grants [] r a h = absurd (omega arith)
fits_at n ds grants (x ∷ xs) zero a h = a.0
fits_at n ds grants (x ∷ xs) (suc r) a h = fits_at n ds grants xs r a.1 (le_of_suc-le-suc h)

module _ (day : Day) (f : 23 ≤ day.hours) (t : day.hours ≤ 25) (cs : List Call) where
  abbrev gs : List Call
  gs = history (opened day) cs

  abbrev end : Book
  end = after (opened day) gs

  all : AllGranted (opened day) gs
  all = (run_follows (opened day) cs).granted

  end_sound : Sound end
  end_sound = sound_after (opened day) gs all (sound_opened day f t)

  flag_is : (d s : ℕ) → There d s → is_matched end.matched d s ≡ was_matched d s gs
  unfolding is_matched opened
  flag_is d s u =
      matched_after_lem d s u (opened day) gs all (sound_opened day f t) (length-replicate {A = ℕ} 600 0)
      ∙ rw (get_or-replicate {A = ℕ} 600 (flag d s) 0 0 (omega (arith, u.rows, u.to)))

  pub matched_is : (r : ℕ) → r < length end.rights
      → is_matched end.matched (right end.rights r).direction (right end.rights r).session
      ≡ was_matched (right end.rights r).direction (right end.rights r).session gs
  matched_is r l =
      let x = fits_at end.day.hours end.directions end.granted end.rights r (fit_after (opened day) gs all (sound_opened day f t) (fit_opened day)) l in
      flag_is _ _ (session_there_lem end end_sound _ _ x.known x.is_there)
