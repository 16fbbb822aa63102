-- The days of years and months in closed form: nothing is left to add up.
-- Assumes nothing.
use Prim.Native.Nat.{ℕ, zero, suc, ◌+◌, ◌-◌, ◌*◌, ◌/◌, ◌%◌, ◌≤◌, ◌<◌}
use mathlib.Core.Path.{◌≡◌, refl}
use mathlib.Core.Bool.{Bool, true, false, cond, ◌&&◌, ◌||◌, not}
use native.Mathlib.Omega.{arith}
use borrow.Author.Tests.{eqb-true, eqb-false}
use lib.Dec.{leb, eqb}
use Rattle.rules.specs.Calendar.{leap, days_in, days_of_years, days_of_months}
use Rattle.rules.proofs.Bools.{and_left, and_right}

-- ---- years

-- by a remainder that is 0, or not
by_zero : (x : ℕ) (P : Bool → Type 0) → (x ≡ 0 → P true) → ((x ≡ 0 → ⊥) → P false) → P (eqb x 0)
by_zero x P is not_so = go (eqb x 0) refl
  where
    go : (t : Bool) → eqb x 0 ≡ t → P (eqb x 0)
    go true e = rw e (is (eqb-true x 0 e))
    go false e = rw e (not_so (eqb-false x 0 e))

-- the year after n years is one more of those that are counted, or not
fourth_more : (n : ℕ) → (suc n + 3) / 4 ≡ (n + 3) / 4 + cond (eqb ((2000 + n) % 4) 0) 1 0
fourth_more n = by_zero ((2000 + n) % 4) (λ t. (suc n + 3) / 4 ≡ (n + 3) / 4 + cond t 1 0) (λ e. omega arith) (λ e. omega arith)

century_more : (n : ℕ) → (suc n + 99) / 100 ≡ (n + 99) / 100 + cond (eqb ((2000 + n) % 100) 0) 1 0
century_more n = by_zero ((2000 + n) % 100) (λ t. (suc n + 99) / 100 ≡ (n + 99) / 100 + cond t 1 0) (λ e. omega arith) (λ e. omega arith)

cycle_more : (n : ℕ) → (suc n + 399) / 400 ≡ (n + 399) / 400 + cond (eqb ((2000 + n) % 400) 0) 1 0
cycle_more n = by_zero ((2000 + n) % 400) (λ t. (suc n + 399) / 400 ≡ (n + 399) / 400 + cond t 1 0) (λ e. omega arith) (λ e. omega arith)

-- so many days have n years from 2000 on: 365 each, and one more in each fourth, but not in a full century, yet in the first of the cycle
abbrev Closed : ℕ → ℕ → Type 0
Closed n days = days + (n + 99) / 100 ≡ 365 * n + (n + 3) / 4 + (n + 399) / 400

year_more : (n days : ℕ) → Closed n days → Closed (suc n) (days + cond (leap (2000 + n)) 366 365)
unfolding leap
year_more n days h =
    rw (fourth_more n, century_more n, cycle_more n)
    (go (eqb ((2000 + n) % 4) 0) refl (eqb ((2000 + n) % 100) 0) refl (eqb ((2000 + n) % 400) 0) refl)
  where
    Goal : Bool → Bool → Bool → Type 0
    Goal four full first =
        days + cond (four && (not full || first)) 366 365 + ((n + 99) / 100 + cond full 1 0)
        ≡ 365 * suc n + ((n + 3) / 4 + cond four 1 0) + ((n + 399) / 400 + cond first 1 0)

    go : (four : Bool) → eqb ((2000 + n) % 4) 0 ≡ four → (full : Bool) → eqb ((2000 + n) % 100) 0 ≡ full → (first : Bool) → eqb ((2000 + n) % 400) 0 ≡ first
        → Goal (eqb ((2000 + n) % 4) 0) (eqb ((2000 + n) % 100) 0) (eqb ((2000 + n) % 400) 0)
    go true e true f true g = rw (e, f, g) (omega arith)
    go true e true f false g = rw (e, f, g) (omega arith)
    go true e false f false g = rw (e, f, g) (omega arith)
    go false e false f false g = rw (e, f, g) (omega arith)
    go true e false f true g = absurd (omega (arith, eqb-false ((2000 + n) % 100) 0 f, eqb-true ((2000 + n) % 400) 0 g))
    go false e true f first g = absurd (omega (arith, eqb-false ((2000 + n) % 4) 0 e, eqb-true ((2000 + n) % 100) 0 f))
    go false e false f true g = absurd (omega (arith, eqb-false ((2000 + n) % 4) 0 e, eqb-true ((2000 + n) % 400) 0 g))

closed : (n : ℕ) → Closed n (days_of_years n)
unfolding days_of_years
closed zero = refl
closed (suc n) = year_more n (days_of_years n) (closed n)

abbrev pub year_days : ℕ → ℕ
year_days n = 365 * n + (n + 3) / 4 + (n + 399) / 400 - (n + 99) / 100

pub years_closed : (n : ℕ) → year_days n ≡ days_of_years n
years_closed n = omega (arith, closed n)

-- ---- months

-- the test passes at each number below n
unfoldable all_below : (ℕ → Bool) → ℕ → Bool
all_below f zero = true
all_below f (suc n) = all_below f n && f n

below : (f : ℕ → Bool) (n : ℕ) → all_below f n ≡ true → (k : ℕ) → k < n → f k ≡ true
unfolding all_below
below f zero e k l = absurd (omega arith)
below f (suc n) e k l = go (eqb k n) refl (below f n (and_left (all_below f n) (f n) e) k)
  where
    go : (t : Bool) → eqb k n ≡ t → (k < n → f k ≡ true) → f k ≡ true
    go true s earlier = rw (eqb-true k n s) (and_right (all_below f n) (f n) e)
    go false s earlier = let other = eqb-false k n s in earlier (omega arith)

-- the days that February lacks to 30, once it is over
abbrev pub lacking : ℕ → ℕ → ℕ
lacking y m = cond (leb m 2) 0 (cond (leap y) 1 2)

-- the closed form after k months
unfoldable right_after : ℕ → ℕ → Bool
right_after y k = eqb (days_of_months y k + lacking y (k + 1)) ((367 * (k + 1) - 362) / 12)

all_months : (y : ℕ) → all_below (right_after y) 12 ≡ true
unfolding all_below right_after days_of_months days_in
all_months y = go (leap y) refl
  where
    go : (t : Bool) → leap y ≡ t → all_below (right_after y) 12 ≡ true
    go true e = rw e
    go false e = rw e

pub months_closed : (y m : ℕ) → 1 ≤ m → m ≤ 12 → days_of_months y (m - 1) + lacking y m ≡ (367 * m - 362) / 12
unfolding right_after
months_closed y m low high =
    let same : m - 1 + 1 ≡ m = omega arith in
    rw same at (eqb-true (days_of_months y (m - 1) + lacking y (m - 1 + 1)) ((367 * (m - 1 + 1) - 362) / 12) (below (right_after y) 12 (all_months y) (m - 1) (omega arith)))
