-- An opening's promise from what the calendar says of its date.
-- Assumes nothing.
use Prim.Native.Nat.{ℕ}
use mathlib.Core.Path.{◌≡◌, ◌∙◌, refl}
use mathlib.Core.Bool.{true, false}
use Rattle.std.specs.Prelude.{Bool, Ok, Err, Some, None}
use Rattle.rules.specs.Basics.{between}
use mathlib.Core.Logic.{◌⊎◌, inl, inr}
use Rattle.rules.specs.Calendar.{is_date, weekday_of, hours_of}
use Rattle.rules.specs.Refusals.{order, first_of}
use Rattle.rules.specs.Opening.{opening_refuses, day_of, undated_monday, opened_day, opening}
use Rattle.rules.specs.declared.Refusal.TheVariants.{Date}
use Rattle.rules.proofs.Days.{hours_known}
use Rattle.cells.specs.View.{hours_read}
use Rattle.stores.specs.Stores.{emptied}
use Rattle.stores.proofs.Stores.{emptied_book}
use Rattle.answers.specs.Promises.{Opens}
use Rattle.day.specs.declared.Day.{Day}
use Rattle.opening.specs.Work.{day_there}

-- the hours of a date are read as they are stored
hours_read_lem : {n : ℕ} → (n ≡ 23) ⊎ ((n ≡ 24) ⊎ (n ≡ 25)) → hours_read n ≡ n
hours_read_lem (inl e) = rw e
hours_read_lem (inr (inl e)) = rw e
hours_read_lem (inr (inr e)) = rw e

-- a date that has no day is not there
pub opens_refused : (y m d : ℕ) → None ≡ day_there (record { year = y; month = m; day = d }) → Opens y m d (Err Date) (emptied 0 0 0 24 1)
unfolding opening opening_refuses opened_day undated_monday first_of order is_date between
opens_refused y m d p = go (is_date y m d) refl
  where
    go : (t : Bool) → is_date y m d ≡ t → Opens y m d (Err Date) (emptied 0 0 0 24 1)
    go true e = absurd (let h : None ≡ Some (record { hours = hours_of y m d; weekday = weekday_of y m d }) = rw e at p in cc)
    go false e = record { reply = rw e; book = rw e (emptied_book 0 0 0 24 1) }

-- with the day that a date that is there has
pub opens_granted : (y m d : ℕ) (day : Day) → Some day ≡ day_there (record { year = y; month = m; day = d }) → Opens y m d (Ok 0) (emptied y m d day.hours day.weekday)
unfolding opening opening_refuses opened_day day_of first_of order
opens_granted y m d day p = go (is_date y m d) refl
  where
    go : (t : Bool) → is_date y m d ≡ t → Opens y m d (Ok 0) (emptied y m d day.hours day.weekday)
    go false e = absurd (let h : Some day ≡ None = rw e at p in cc)
    go true e =
        let is : day ≡ record { hours = hours_of y m d; weekday = weekday_of y m d } = (let h : Some day ≡ Some (record { hours = hours_of y m d; weekday = weekday_of y m d }) = rw e at p in cc) in
        record {
          reply = rw e;
          book = rw (e, is) (emptied_book y m d (hours_of y m d) (weekday_of y m d) ∙ rw (e, hours_read_lem (hours_known y m d)));
        }
