-- The days of the calendar follow each other, a last Sunday is what its name says, and an opening's day is one that 01 knows.
-- Assumes nothing.
use Prim.Native.Nat.{ℕ, suc, ◌+◌, ◌-◌, ◌%◌, ◌≤◌}
use mathlib.Core.Path.{◌≡◌, refl, ap, ◌∙◌}
use mathlib.Core.Bool.{Bool, true, false, cond, ◌&&◌, ◌||◌}
use mathlib.Core.Logic.{◌⊎◌, inl, inr}
use native.Mathlib.Omega.{arith}
use lib.Dec.{eqb, lit≤}
use borrow.Author.Tests.{eqb-true}
use Rattle.rules.specs.Calendar.{leap, days_in, is_date, days_of_years, days_of_months, days_since, weekday_of, last_sunday, hours_of}
use Rattle.rules.specs.Book.{opened}
use Rattle.rules.specs.Opening.{day_of, undated_monday, opened_day, opening}
use Rattle.rules.specs.Days.{DaysInOrder, IsLastSunday, OneLastSunday, KnownDay, OpenedDays}
use Rattle.rules.proofs.Bools.{and_left, and_right}

-- ---- days in order

next_day : (y m d : ℕ) → 1 ≤ d → days_since y m (d + 1) ≡ days_since y m d + 1
unfolding days_since
next_day y m d h = omega arith

some_days : (y m : ℕ) → 1 ≤ days_in y m
unfolding days_in
some_days y m = go (eqb m 2) (leap y) (eqb m 4 || eqb m 6 || eqb m 9 || eqb m 11)
  where
    go : (february leaps short : Bool) → 1 ≤ cond {A = ℕ} february (cond leaps 29 28) (cond short 30 31)
    go true true short = lit≤ tt
    go true false short = lit≤ tt
    go false leaps true = lit≤ tt
    go false leaps false = lit≤ tt

next_month : (y m : ℕ) → 1 ≤ m → days_since y (m + 1) 1 ≡ days_since y m (days_in y m) + 1
unfolding days_since days_of_months
next_month y m h =
    let next : m + 1 - 1 ≡ suc (m - 1) = omega arith in
    let same : suc (m - 1) ≡ m = omega arith in
    omega (arith, ap (days_of_months y) next, ap (days_in y) same, some_days y m)

next_year : (y : ℕ) → 2000 ≤ y → days_since (y + 1) 1 1 ≡ days_since y 12 31 + 1
unfolding days_since days_of_years days_of_months days_in
next_year y h =
    let next : y + 1 - 2000 ≡ suc (y - 2000) = omega arith in
    let same : 2000 + (y - 2000) ≡ y = omega arith in
    rw (next, same) (go (leap y))
  where
    go : (t : Bool)
        → days_of_years (y - 2000) + cond t 366 365 + 0 + 0
        ≡ days_of_years (y - 2000) + (31 + cond t 29 28 + 31 + 30 + 31 + 30 + 31 + 31 + 30 + 31 + 30) + 30 + 1
    go true = omega arith
    go false = omega arith

pub days_in_order : DaysInOrder
unfolding days_since days_of_years days_of_months leap
days_in_order = record { first = refl; next_day = next_day; next_month = next_month; next_year = next_year; cycle = refl }

-- ---- last Sundays

is_last : (y m : ℕ) → IsLastSunday y m (last_sunday y m)
unfolding last_sunday weekday_of days_since
is_last y m = record { from = omega arith; to = omega arith; sunday = omega arith }

only_last : (y m d : ℕ) → IsLastSunday y m d → d ≡ last_sunday y m
unfolding last_sunday weekday_of days_since
only_last y m d h =
    let e : 1 + (5 + (days_of_years (y - 2000) + days_of_months y (m - 1) + (d - 1))) % 7 ≡ 7 = h.sunday in
    omega (arith, h.from, h.to)

pub one_last_sunday : OneLastSunday
one_last_sunday = record { is_last = is_last; only_last = only_last }

-- ---- the day of an opening

-- a weekday that some test finds to be Sunday is no Tuesday
not_tuesday : (y m d : ℕ) → eqb d (last_sunday y m) ≡ true → weekday_of y m d ≡ 2 → ⊥
not_tuesday y m d e t =
    let s : weekday_of y m d ≡ 7 = ap (weekday_of y m) (eqb-true d (last_sunday y m) e) ∙ (is_last y m).sunday in
    omega arith

-- the hours by the two tests of a date
abbrev hours_by : Bool → Bool → ℕ
hours_by spring autumn = cond spring 23 (cond autumn 25 24)

hours_by_lem : (spring autumn : Bool) → (hours_by spring autumn ≡ 23) ⊎ ((hours_by spring autumn ≡ 24) ⊎ (hours_by spring autumn ≡ 25))
hours_by_lem true autumn = inl refl
hours_by_lem false true = inr (inr refl)
hours_by_lem false false = inr (inl refl)

tuesday_hours : (y m d : ℕ) → weekday_of y m d ≡ 2 → hours_of y m d ≡ 24
unfolding hours_of
tuesday_hours y m d t = go (eqb m 3 && eqb d (last_sunday y 3)) refl (eqb m 10 && eqb d (last_sunday y 10)) refl
  where
    -- the month's own test makes the last Sunday the date's
    ruled_out : (month : ℕ) → (eqb m month && eqb d (last_sunday y month)) ≡ true → ⊥
    ruled_out month e =
        let same = eqb-true m month (and_left (eqb m month) _ e) in
        not_tuesday y m d (ap (λ (k : ℕ). eqb d (last_sunday y k)) same ∙ and_right (eqb m month) _ e) t

    go : (spring : Bool) → (eqb m 3 && eqb d (last_sunday y 3)) ≡ spring → (autumn : Bool) → (eqb m 10 && eqb d (last_sunday y 10)) ≡ autumn
        → hours_by spring autumn ≡ 24
    go true e autumn f = absurd (ruled_out 3 e)
    go false e true f = absurd (ruled_out 10 f)
    go false e false f = refl

pub hours_known : (y m d : ℕ) → (hours_of y m d ≡ 23) ⊎ ((hours_of y m d ≡ 24) ⊎ (hours_of y m d ≡ 25))
unfolding hours_of
hours_known y m d = hours_by_lem (eqb m 3 && eqb d (last_sunday y 3)) (eqb m 10 && eqb d (last_sunday y 10))

known_date : (y m d : ℕ) → KnownDay (day_of y m d)
unfolding day_of weekday_of
known_date y m d =
    record {
      hours_known = hours_known y m d;
      weekday_from = omega arith;
      weekday_to = omega arith;
      tuesday = tuesday_hours y m d;
    }

known_monday : KnownDay undated_monday
unfolding undated_monday
known_monday = record { hours_known = inr (inl refl); weekday_from = lit≤ tt; weekday_to = lit≤ tt; tuesday = λ e. refl }

pub known_day : (y m d : ℕ) → KnownDay (opened_day y m d)
unfolding opened_day
known_day y m d = go (is_date y m d)
  where
    go : (t : Bool) → KnownDay (cond t (day_of y m d) undated_monday)
    go true = known_date y m d
    go false = known_monday

pub opened_days : OpenedDays
unfolding opening opened opened_day day_of undated_monday
opened_days = record { known = known_day; dated = λ y m d e. rw e; undated = λ y m d e. rw e }

-- a known count of hours is from 23 to 25
pub hours_within : {n : ℕ} → (n ≡ 23) ⊎ ((n ≡ 24) ⊎ (n ≡ 25)) → (23 ≤ n) × (n ≤ 25)
hours_within (inl e) = (omega arith, omega arith)
hours_within (inr (inl e)) = (omega arith, omega arith)
hours_within (inr (inr e)) = (omega arith, omega arith)
