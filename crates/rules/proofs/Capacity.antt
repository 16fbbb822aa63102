-- Demand 3, capacity: at each hour, for each direction and profile, left and shortfall are the differences between the last granted offer and the MW of the
-- granted bids.
-- Assumes nothing.
use Prim.Native.Nat.{ℕ, ◌+◌, ◌-◌, ◌≤◌, ◌<◌}
use mathlib.Core.Path.{◌≡◌, refl, sym, ◌∙◌}
use mathlib.Core.List.{List, [], ◌∷◌, ◌++◌, append_assoc, append-nil}
use native.Mathlib.Nat.{add-zero, zero-add, add_assoc}
use native.Mathlib.Omega.{arith}
use lib.ListN.{get_or, get_or-replicate}
use Rattle.rules.specs.Basics.{has}
use Rattle.rules.specs.Sessions.{first_hour}
use Rattle.rules.specs.Book.{Day, Direction, Book, direction, left_at, shortfall_at, place, of_profile, opened}
use Rattle.rules.specs.Calls.{Call, AddDirection, AddProfile, AddParty, OfferDirection, OfferProfile, Bid, Nominate, Match}
use Rattle.rules.specs.Bids.{share}
use Rattle.rules.specs.Refusals.{order, refuses, unknown}
use Rattle.rules.specs.Effects.{directions_after, profiles_after, offered_after, granted_after, effect}
use Rattle.rules.specs.Run.{run}
use Rattle.rules.specs.History.{directions_of, profiles_of, offer_after, last_offer, bid_mw, bid_sum, granted_mw}
use Rattle.rules.proofs.Decisions.{Granted, fails}
use Rattle.rules.proofs.Places.{place_row, place_hour, stored}
use Rattle.rules.proofs.Histories.{after, AllGranted, history, run_follows}
use Rattle.rules.proofs.Books.{Kept, bid_kept, Sound, direction_there, profile_there, get_or-with_bid, sound_step, sound_after, sound_opened}

-- ---- one row in one hour

module _ (row hour : ℕ) (l : row < 32) (p : 1 ≤ hour) (q : hour ≤ 25) where
  offered_step : (b : Book) (c : Call) → Granted b c → Sound b
      → get_or (offered_after b.offered c) (place row hour) 0 ≡ offer_after row hour (get_or b.offered (place row hour) 0) c
  unfolding order has refuses unknown offered_after offer_after
  offered_step b (AddDirection o i m) g s = refl
  offered_step b (AddProfile map) g s = refl
  offered_step b (AddParty code access) g s = refl
  offered_step b (OfferDirection time d h mw) g s =
      let t = direction_there b s d h (fails g 6 tt) in
      stored 32 b.offered s.1.offered row hour d h mw l p q t.rows t.from t.to
  offered_step b (OfferProfile time k h mw) g s =
      let t = profile_there b s k h (fails g 6 tt) in
      stored 32 b.offered s.1.offered row hour (of_profile k) h mw l p q t.rows t.from t.to
  offered_step b (Bid time k d session mw) g s = refl
  offered_step b (Nominate time sender other r side mw) g s = refl
  offered_step b (Match time d session) g s = refl

  granted_step : (b : Book) (c : Call) → Sound b
      → get_or (granted_after b.day.hours b.directions b.profiles b.granted c) (place row hour) 0
      ≡ get_or b.granted (place row hour) 0 + bid_mw b.day.hours b.directions b.profiles row hour c
  unfolding granted_after bid_mw share
  granted_step b (AddDirection o i m) s = sym (add-zero _)
  granted_step b (AddProfile map) s = sym (add-zero _)
  granted_step b (AddParty code access) s = sym (add-zero _)
  granted_step b (OfferDirection time d h mw) s = sym (add-zero _)
  granted_step b (OfferProfile time k h mw) s = sym (add-zero _)
  granted_step b (Bid time k d session mw) s =
      let first : ℕ = first_hour b.day.hours (direction b.directions d).model session in
      rw (
        get_or-with_bid b.profiles d first mw b.granted (place row hour) (omega (arith, s.1.granted)),
        place_row row hour,
        place_hour row hour,
      )
  granted_step b (Nominate time sender other r side mw) s = sym (add-zero _)
  granted_step b (Match time d session) s = sym (add-zero _)

  -- the directions and profiles at the end are those that the bid met
  final_mw : (b : Book) (c : Call) (cs : List Call) → AllGranted (effect b c) cs
      → bid_mw b.day.hours (after (effect b c) cs).directions (after (effect b c) cs).profiles row hour c
      ≡ bid_mw b.day.hours b.directions b.profiles row hour c
  unfolding bid_mw
  final_mw b (AddDirection o i m) cs g = refl
  final_mw b (AddProfile map) cs g = refl
  final_mw b (AddParty code access) cs g = refl
  final_mw b (OfferDirection time d h mw) cs g = refl
  final_mw b (OfferProfile time k h mw) cs g = refl
  final_mw b (Bid time k d session mw) cs g =
      let e : Kept b (after (effect b (Bid time k d session mw)) cs) = bid_kept b time k d session mw cs g in
      rw (e.directions, e.profiles)
  final_mw b (Nominate time sender other r side mw) cs g = refl
  final_mw b (Match time d session) cs g = refl

  granted_after_lem : (b : Book) (cs : List Call) → AllGranted b cs → Sound b
      → get_or (after b cs).granted (place row hour) 0
      ≡ get_or b.granted (place row hour) 0 + bid_sum b.day.hours (after b cs).directions (after b cs).profiles row hour cs
  unfolding bid_sum effect
  granted_after_lem b [] g s = sym (add-zero _)
  granted_after_lem b (c ∷ cs) g s =
      rw (granted_after_lem (effect b c) cs g.1 (sound_step b c g.0 s), granted_step b c s, final_mw b c cs g.1) (add_assoc _ _ _)

  offered_after_lem : (b : Book) (cs : List Call) → AllGranted b cs → Sound b
      → get_or (after b cs).offered (place row hour) 0 ≡ last_offer row hour (get_or b.offered (place row hour) 0) cs
  unfolding last_offer effect
  offered_after_lem b [] g s = refl
  offered_after_lem b (c ∷ cs) g s =
      rw (← offered_step b c g.0 s) (offered_after_lem (effect b c) cs g.1 (sound_step b c g.0 s))

-- ---- set-up

-- a set-up call adds its entry behind those before it
directions_more : (ds : List Direction) (c : Call) (cs : List Call) → directions_after ds c ++ directions_of cs ≡ ds ++ directions_of (c ∷ cs)
unfolding directions_after directions_of
directions_more ds (AddDirection o i m) cs = append_assoc ds _ _
directions_more ds (AddProfile map) cs = refl
directions_more ds (AddParty code access) cs = refl
directions_more ds (OfferDirection time d h mw) cs = refl
directions_more ds (OfferProfile time k h mw) cs = refl
directions_more ds (Bid time k d session mw) cs = refl
directions_more ds (Nominate time sender other r side mw) cs = refl
directions_more ds (Match time d session) cs = refl

pub directions_after_lem : (b : Book) (cs : List Call) → (after b cs).directions ≡ b.directions ++ directions_of cs
unfolding effect
directions_after_lem b [] = unfold directions_of in sym (append-nil b.directions)
directions_after_lem b (c ∷ cs) = directions_after_lem (effect b c) cs ∙ directions_more b.directions c cs

profiles_more : (maps : List ℕ) (c : Call) (cs : List Call) → profiles_after maps c ++ profiles_of cs ≡ maps ++ profiles_of (c ∷ cs)
unfolding profiles_after profiles_of
profiles_more maps (AddDirection o i m) cs = refl
profiles_more maps (AddProfile map) cs = append_assoc maps _ _
profiles_more maps (AddParty code access) cs = refl
profiles_more maps (OfferDirection time d h mw) cs = refl
profiles_more maps (OfferProfile time k h mw) cs = refl
profiles_more maps (Bid time k d session mw) cs = refl
profiles_more maps (Nominate time sender other r side mw) cs = refl
profiles_more maps (Match time d session) cs = refl

profiles_after_lem : (b : Book) (cs : List Call) → (after b cs).profiles ≡ b.profiles ++ profiles_of cs
unfolding effect
profiles_after_lem b [] = unfold profiles_of in sym (append-nil b.profiles)
profiles_after_lem b (c ∷ cs) = profiles_after_lem (effect b c) cs ∙ profiles_more b.profiles c cs

-- ---- the demand

module _ (day : Day) (f : 23 ≤ day.hours) (h : day.hours ≤ 25) (row hour : ℕ) (l : row < 32) (p : 1 ≤ hour) (q : hour ≤ 25) where
  granted_total : (gs : List Call) → AllGranted (opened day) gs
      → get_or (after (opened day) gs).granted (place row hour) 0 ≡ bid_sum day.hours (directions_of gs) (profiles_of gs) row hour gs
  unfolding opened
  granted_total gs g =
      granted_after_lem row hour l p q (opened day) gs g (sound_opened day f h)
      ∙ rw (get_or-replicate {A = ℕ} 800 (place row hour) 0 0 (omega arith), directions_after_lem (opened day) gs, profiles_after_lem (opened day) gs) (zero-add _)

  offered_last : (gs : List Call) → AllGranted (opened day) gs
      → get_or (after (opened day) gs).offered (place row hour) 0 ≡ last_offer row hour 0 gs
  unfolding opened
  offered_last gs g =
      offered_after_lem row hour l p q (opened day) gs g (sound_opened day f h) ∙ rw (get_or-replicate {A = ℕ} 800 (place row hour) 0 0 (omega arith))

-- left and shortfall are the differences between the last granted offer and the granted MW, which are at most 9,999
pub record Balance (left shortfall offer granted : ℕ) : Type 0 where
  pub left_is : left ≡ offer - granted
  pub shortfall_is : shortfall ≡ granted - offer
  pub within : granted ≤ 9999

pub balance : (day : Day) → 23 ≤ day.hours → day.hours ≤ 25 → (gs : List Call) → AllGranted (opened day) gs → (row hour : ℕ) → row < 32 → 1 ≤ hour → hour ≤ 25
    → let b : Book = after (opened day) gs in
    Balance (left_at b row hour) (shortfall_at b row hour) (last_offer row hour 0 gs) (granted_mw day.hours gs row hour)
balance day f h gs g row hour l p q =
    let o = offered_last day f h row hour l p q gs g in
    let t = granted_total day f h row hour l p q gs g in
    let s = sound_after (opened day) gs g (sound_opened day f h) in
    record { left_is = rw (o, t); shortfall_is = rw (o, t); within = rw (← t) (s.1.grants_within (place row hour)) }

-- ---- the day and set-up, after granted calls and after a run

day_after : (b : Book) (cs : List Call) → (after b cs).day ≡ b.day
unfolding effect
day_after b [] = refl
day_after b (c ∷ cs) = day_after (effect b c) cs

-- those of a book that was opened
module _ (day : Day) (gs : List Call) where
  pub day_opened : (after (opened day) gs).day ≡ day
  unfolding opened
  day_opened = day_after (opened day) gs

  pub directions_opened : (after (opened day) gs).directions ≡ directions_of gs
  unfolding opened
  directions_opened = directions_after_lem (opened day) gs

  pub profiles_opened : (after (opened day) gs).profiles ≡ profiles_of gs
  unfolding opened
  profiles_opened = profiles_after_lem (opened day) gs

module _ (day : Day) (cs : List Call) where
  pub day_run : (run (opened day) cs).book.day ≡ day
  day_run = rw (run_follows (opened day) cs).book (day_opened day (history (opened day) cs))

  pub directions_run : (run (opened day) cs).book.directions ≡ directions_of (history (opened day) cs)
  directions_run = rw (run_follows (opened day) cs).book (directions_opened day (history (opened day) cs))

  pub profiles_run : (run (opened day) cs).book.profiles ≡ profiles_of (history (opened day) cs)
  profiles_run = rw (run_follows (opened day) cs).book (profiles_opened day (history (opened day) cs))

  pub sound_run : 23 ≤ day.hours → day.hours ≤ 25 → Sound (run (opened day) cs).book
  sound_run f h =
      rw (run_follows (opened day) cs).book
      (sound_after (opened day) (history (opened day) cs) (run_follows (opened day) cs).granted (sound_opened day f h))

  pub balance_run : 23 ≤ day.hours → day.hours ≤ 25 → (row hour : ℕ) → row < 32 → 1 ≤ hour → hour ≤ 25
      → let gs : List Call = history (opened day) cs in
      Balance (left_at (run (opened day) cs).book row hour) (shortfall_at (run (opened day) cs).book row hour) (last_offer row hour 0 gs) (granted_mw day.hours gs row hour)
  balance_run f h row hour l p q =
      rw (run_follows (opened day) cs).book (balance day f h (history (opened day) cs) (run_follows (opened day) cs).granted row hour l p q)
