-- Demand 3, each granted bid: it fits what the calls before it leave, and where it takes MW they give no shortfall.
-- Assumes nothing.
use Prim.Native.Nat.{ℕ, ◌+◌, ◌-◌, ◌≤◌, ◌<◌}
use mathlib.Core.Path.{◌≡◌, refl, sym, ◌∙◌, subst}
use mathlib.Core.Bool.{Bool, true, false, cond, true≢false}
use mathlib.Core.List.{List, [], ◌∷◌, ◌++◌}
use native.Mathlib.Omega.{arith}
use lib.Dec.{leb, ltb}
use lib.ListN.{length, get_or, get_or-eq_default}
use borrow.Author.Tests.{leb-true, ltb-true, ltb-false}
use Rattle.rules.specs.Basics.{has, mw_at}
use Rattle.rules.specs.Sessions.{first_hour, hours_in}
use Rattle.rules.specs.Book.{Day, Book, holds, left_at, opened, model_of}
use Rattle.rules.specs.Calls.{Call, Bid}
use Rattle.rules.specs.Bids.{share}
use Rattle.rules.specs.Refusals.{order, refuses, shortage_of}
use Rattle.rules.specs.Effects.{effect}
use Rattle.rules.specs.History.{directions_of, profiles_of, bid_mw, left_mw}
use Rattle.rules.specs.Demand3.{BidFits}
use Rattle.rules.proofs.Decisions.{Granted, fails}
use Rattle.rules.proofs.Histories.{after, AllGranted, history, run_follows}
use Rattle.rules.proofs.Sessions.{hours_there}
use Rattle.rules.proofs.Shortages.{no_bit, bid_fits}
use Rattle.rules.proofs.Books.{Sound, There, sound_after, sound_opened}
use Rattle.rules.proofs.RightsFit.{session_known, lacking}
use Rattle.rules.proofs.Capacity.{balance, day_opened, directions_opened, profiles_opened}

-- ---- a granted bid on a book

-- where `cond t m 0` is above 0, t holds and m is above 0
positive : (t : Bool) (m : ℕ) → 0 < cond t m 0 → (t ≡ true) × (0 < m)
positive true m h = (refl, h)
positive false m h = absurd (omega arith)

-- a row that holds a direction is there
row_there : (maps : List ℕ) (d row : ℕ) → length maps ≤ 8 → holds maps d row ≡ true → row < 32
unfolding holds
row_there maps d row l e = go (ltb row 24) refl (ltb (row - 24) (length maps)) refl
  where
    go : (s : Bool) → ltb row 24 ≡ s → (t : Bool) → ltb (row - 24) (length maps) ≡ t → row < 32
    go true q t r = let h = ltb-true row 24 q in omega arith
    go false q true r = let h = ltb-true (row - 24) (length maps) r in omega arith
    go false q false r =
        let z = get_or-eq_default maps 0 {n = row - 24} (ltb-false (row - 24) (length maps) r) in
        absurd (true≢false (sym (rw (q, holds, z) at e) ∙ no_bit d))

module _ (b : Book) (w : Sound b) (time p d session : ℕ) (mw : List ℕ) (g : Granted b (Bid time p d session mw)) where
  abbrev taken : ℕ → ℕ → ℕ
  taken row hour = bid_mw b.day.hours b.directions b.profiles row hour (Bid time p d session mw)

  abbrev first : ℕ
  first = first_hour b.day.hours (model_of b d) session

  -- where it takes MW, row and hour are there
  taken_there : (row hour : ℕ) → 0 < taken row hour → There row hour
  unfolding bid_mw mw_at
  taken_there row hour h =
      let x = positive (holds b.profiles d row) (mw_at first mw hour) h in
      let y = positive (leb first hour) (get_or mw (hour - first) 0) x.1 in
      let e : first + (hour - first) ≡ hour = let l = leb-true first hour y.0 in omega arith in
      let t = hours_there b.day.hours (model_of b d) session (hour - first) w.0.hours_from w.0.hours_to (session_known b w time p d session mw g) (within (hour - first) y.1) in
      record { rows = row_there b.profiles d row w.0.profiles x.0; from = rw e at t.0; to = let u : hour ≤ b.day.hours = rw e at t.1 in omega (arith, w.0.hours_to) }
    where
      within : (k : ℕ) → 0 < get_or mw k 0 → k < hours_in b.day.hours (model_of b d) session
      within k m = go (ltb k (hours_in b.day.hours (model_of b d) session)) refl
        where
          go : (t : Bool) → ltb k (hours_in b.day.hours (model_of b d) session) ≡ t → k < hours_in b.day.hours (model_of b d) session
          go true t = ltb-true k _ t
          go false t = absurd (omega (arith, lacking b w time p d session mw g k (ltb-false k _ t)))

  -- and its MW are left
  taken_left : (row hour : ℕ) → taken row hour ≤ left_at b row hour
  unfolding order has refuses shortage_of bid_mw share
  taken_left row hour = bid_fits b d first mw (fails g 15 tt) row hour

-- ---- a granted bid at a place of a list

-- the granted calls before a call, and that call on their book
granted_at : (b : Book) (xs ys : List Call) (c : Call) → AllGranted b (xs ++ (c ∷ ys)) → AllGranted b xs × Granted (after b xs) c
granted_at b [] ys c g = (tt, g.0)
granted_at b (x ∷ xs) ys c g =
    let r = granted_at (effect b x) xs ys c g.1 in
    ((g.0, r.0), r.1)

module _ (day : Day) (f : 23 ≤ day.hours) (t : day.hours ≤ 25) where
  module _ (xs : List Call) (a : AllGranted (opened day) xs) (time p d session : ℕ) (mw : List ℕ) (g : Granted (after (opened day) xs) (Bid time p d session mw)) where
    abbrev mw_taken : ℕ → ℕ → ℕ
    mw_taken row hour = bid_mw day.hours (directions_of xs) (profiles_of xs) row hour (Bid time p d session mw)

    sound : Sound (after (opened day) xs)
    sound = sound_after (opened day) xs a (sound_opened day f t)

    place_there : (row hour : ℕ) → 0 < mw_taken row hour → There row hour
    place_there row hour h =
        taken_there (after (opened day) xs) sound time p d session mw g row hour
        (rw (day_opened day xs, directions_opened day xs, profiles_opened day xs) h)

    mw_left : (row hour : ℕ) → mw_taken row hour ≤ left_mw day.hours xs row hour
    mw_left row hour = go (ltb 0 (mw_taken row hour)) refl
      where
        go : (s : Bool) → ltb 0 (mw_taken row hour) ≡ s → mw_taken row hour ≤ left_mw day.hours xs row hour
        go false s = let z = ltb-false 0 (mw_taken row hour) s in omega arith
        go true s =
            let h = place_there row hour (ltb-true 0 (mw_taken row hour) s) in
            let e = balance day f t xs a row hour h.rows h.from h.to in
            rw (← e.left_is)
            (rw (day_opened day xs, directions_opened day xs, profiles_opened day xs) at (taken_left (after (opened day) xs) sound time p d session mw g row hour))

    fits : BidFits day.hours xs (Bid time p d session mw)
    fits = record { no_shortfall = λ row hour h. omega (arith, mw_left row hour); within_left = mw_left }

  pub bids_fit : (cs earlier later : List Call) (time p d session : ℕ) (mw : List ℕ) → history (opened day) cs ≡ earlier ++ (Bid time p d session mw ∷ later)
      → BidFits day.hours earlier (Bid time p d session mw)
  bids_fit cs earlier later time p d session mw e =
      let g = granted_at (opened day) earlier later (Bid time p d session mw) (subst (AllGranted (opened day)) e (run_follows (opened day) cs).granted) in
      fits earlier g.0 time p d session mw g.1
