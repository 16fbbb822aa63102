-- Demand 3, whole.
-- Assumes nothing.
use Prim.Native.Nat.{ℕ, ◌+◌, ◌-◌, ◌≤◌, ◌<◌}
use mathlib.Core.Path.{◌≡◌, refl, ap, ◌∙◌}
use mathlib.Core.Bool.{Bool, true, false, cond, ◌||◌}
use mathlib.Core.List.{List}
use native.Mathlib.Nat.{le_trans}
use native.Mathlib.Omega.{arith}
use lib.Dec.{leb, ltb}
use lib.ListN.{length}
use borrow.Author.Tests.{leb-false, ltb-false, lt-leb, le-ltb}
use Rattle.rules.specs.Book.{Day, Book, left_at, shortfall_at, of_profile, opened}
use Rattle.rules.specs.Calls.{Call, no_details}
use Rattle.rules.specs.Refusals.{order, first_of, hour_unknown}
use Rattle.rules.specs.Run.{run}
use Rattle.rules.specs.Opening.{opening, opened_day}
use Rattle.rules.specs.Days.{KnownDay}
use Rattle.rules.specs.Reads.{left_reply, direction_read_refuses, read_direction, profile_read_refuses, read_profile, right_read_refuses, read_right}
use Rattle.rules.specs.History.{directions_of, profiles_of, last_offer, granted_mw, left_mw, shortfall_mw}
use Rattle.rules.specs.Demand3.{left_by, right_reply, Holds, Demand3}
use Rattle.rules.proofs.Bools.{or_left, or_right}
use Rattle.rules.proofs.Days.{known_day, hours_within}
use Rattle.rules.proofs.Histories.{history, struck}
use Rattle.rules.proofs.Books.{limits}
use Rattle.rules.proofs.Capacity.{Balance, balance_run, day_run, directions_run, profiles_run, sound_run}
use Rattle.rules.proofs.BidsFit.{bids_fit}
use Rattle.rules.proofs.Rights.{rights, right_sums}
use Rattle.rules.proofs.Matching.{confirmed_read, within_right, within_out, within_into, rounded_down, little_lost}

-- ---- the reads of what is left, and of a right

-- what the reads of what is left answer, by the book's own tables
direction_read : (b : Book) (d hour : ℕ)
    → read_direction b d hour ≡ left_reply (cond (leb (length b.directions) d || (ltb hour 1 || ltb b.day.hours hour)) 6 0) (left_at b d hour) (shortfall_at b d hour)
unfolding read_direction direction_read_refuses hour_unknown first_of order
direction_read b d hour = refl

profile_read : (b : Book) (k hour : ℕ)
    → read_profile b k hour ≡ left_reply (cond (leb (length b.profiles) k || (ltb hour 1 || ltb b.day.hours hour)) 6 0) (left_at b (of_profile k) hour) (shortfall_at b (of_profile k) hour)
unfolding read_profile profile_read_refuses hour_unknown first_of order
profile_read b k hour = refl

-- left and shortfall count only where number and hour are there
left_where : (count n x hour left shortfall offer granted : ℕ) → (x < count → 1 ≤ hour → hour ≤ n → Balance left shortfall offer granted)
    → left_reply (cond (leb count x || (ltb hour 1 || ltb n hour)) 6 0) left shortfall ≡ left_by count n x hour (offer - granted) (granted - offer)
left_where count n x hour left shortfall offer granted there = go (leb count x || (ltb hour 1 || ltb n hour)) refl
  where
    go : (t : Bool) → (leb count x || (ltb hour 1 || ltb n hour)) ≡ t
        → left_reply (cond t 6 0) left shortfall
        ≡ cond t (record { reply = no_details 6; left = 0; shortfall = 0 }) (record { reply = no_details 0; left = offer - granted; shortfall = granted - offer })
    go true e = refl
    go false e =
        let h = or_right (leb count x) _ e in
        let b = there (leb-false count x (or_left _ _ e)) (ltb-false hour 1 (or_left _ _ h)) (ltb-false n hour (or_right (ltb hour 1) _ h)) in
        rw (b.left_is, b.shortfall_is)

-- and there left + granted = offer + shortfall
adds_up : (count n x hour offer granted : ℕ) → x < count → 1 ≤ hour → hour ≤ n
    → (left_by count n x hour (offer - granted) (granted - offer)).left + granted ≡ offer + (left_by count n x hour (offer - granted) (granted - offer)).shortfall
adds_up count n x hour offer granted l p q = rw (lt-leb count x l, le-ltb hour 1 p, le-ltb n hour q) (omega arith)

right_read : (b : Book) (r : ℕ) → read_right b r ≡ right_reply b.rights r
unfolding read_right right_read_refuses first_of order
right_read b r = refl

-- ---- a book that was opened

module _ (day : Day) (known : KnownDay day) (cs : List Call) where
  abbrev n : ℕ
  n = day.hours

  f : 23 ≤ n
  f = (hours_within known.hours_known).0

  t : n ≤ 25
  t = (hours_within known.hours_known).1

  abbrev end : Book
  end = (run (opened day) cs).book

  abbrev gs : List Call
  gs = history (opened day) cs

  direction_there : (d : ℕ) → d < length end.directions → d < 24
  direction_there d l = omega (arith, (sound_run day cs f t).0.directions)

  profile_there : (k : ℕ) → k < length end.profiles → of_profile k < 32
  profile_there k l = omega (arith, (sound_run day cs f t).0.profiles)

  of_direction : (d hour : ℕ) → d < length (directions_of gs) → 1 ≤ hour → hour ≤ n
      → Balance (left_at end d hour) (shortfall_at end d hour) (last_offer d hour 0 gs) (granted_mw n gs d hour)
  of_direction d hour l p q =
      let h = direction_there d (rw (directions_run day cs) l) in
      balance_run day cs f t d hour (omega arith) p (le_trans q t)

  of_profile_lem : (k hour : ℕ) → k < length (profiles_of gs) → 1 ≤ hour → hour ≤ n
      → Balance (left_at end (of_profile k) hour) (shortfall_at end (of_profile k) hour) (last_offer (of_profile k) hour 0 gs) (granted_mw n gs (of_profile k) hour)
  of_profile_lem k hour l p q = balance_run day cs f t (of_profile k) hour (profile_there k (rw (profiles_run day cs) l)) p (le_trans q t)

  direction_is : (d hour : ℕ) → read_direction end d hour ≡ left_by (length (directions_of gs)) n d hour (left_mw n gs d hour) (shortfall_mw n gs d hour)
  direction_is d hour = direction_read end d hour ∙ rw (directions_run day cs, day_run day cs) (left_where _ n d hour _ _ _ _ (of_direction d hour))

  profile_is : (k hour : ℕ)
      → read_profile end k hour ≡ left_by (length (profiles_of gs)) n k hour (left_mw n gs (of_profile k) hour) (shortfall_mw n gs (of_profile k) hour)
  profile_is k hour = profile_read end k hour ∙ rw (profiles_run day cs, day_run day cs) (left_where _ n k hour _ _ _ _ (of_profile_lem k hour))

  holds : Holds (opened day) day cs
  holds =
      record {
        the_day = day_run day cs;
        known_day = rw (day_run day cs) known;
        left_of_direction = direction_is;
        left_of_profile = profile_is;
        direction_adds_up = λ d hour l p q. rw (direction_is d hour) (adds_up _ n d hour _ _ l p q);
        profile_adds_up = λ k hour l p q. rw (profile_is k hour) (adds_up _ n k hour _ _ l p q);
        bids_fit = bids_fit day f t cs;
        direction_within = λ d hour l p q. (of_direction d hour l p q).within;
        profile_within = λ k hour l p q. (of_profile_lem k hour l p q).within;
        the_rights = λ r. right_read end r ∙ ap (λ rs. right_reply rs r) (rights day f t cs);
        the_sums = λ d hour l. right_sums n _ _ d hour (direction_there d (rw (directions_run day cs) l)) (history (opened day) cs);
        the_confirmed = confirmed_read day f t cs;
        within_right = within_right _ _ _ (confirmed_read day f t cs);
        within_out = within_out _ _ _ (confirmed_read day f t cs);
        within_into = within_into _ _ _ (confirmed_read day f t cs);
        rounded_down = λ r o i k p. rounded_down _ _ _ (confirmed_read day f t cs) r k p o i;
        little_lost = λ r k p. little_lost _ _ _ (confirmed_read day f t cs) r k p;
        without_refused = struck (opened day) cs;
        limits = limits end (sound_run day cs f t);
      }

-- ---- an opening

-- demand 3
pub demand3 : (y m d : ℕ) (cs : List Call) → Demand3 y m d cs
unfolding opening
demand3 y m d cs = holds (opened_day y m d) (known_day y m d) cs
