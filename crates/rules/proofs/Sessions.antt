-- The hours of a session are hours of the day, and the session that is said to hold an hour does.
-- Assumes nothing.
use Prim.Native.Nat.{ℕ, ◌+◌, ◌-◌, ◌/◌, ◌≤◌, ◌<◌}
use mathlib.Core.Path.{◌≡◌, refl}
use mathlib.Core.Bool.{Bool, true, false, cond}
use native.Mathlib.Omega.{arith}
use lib.Dec.{eqb, leb, ltb}
use borrow.Author.Tests.{leb-true, leb-false, ltb-true, le-leb, lt-leb, lt-ltb}
use Rattle.rules.specs.Sessions.{session_there, first_hour, hours_in, session_of}
use Rattle.rules.proofs.Bools.{and_left, and_right}

-- a session that is there has a number from 1 to 25
pub session_from : (n model s : ℕ) → session_there n model s ≡ true → 1 ≤ s
unfolding session_there
session_from n model s t = ltb-true 0 s (and_left _ _ t)

session_most : (n model s : ℕ) → session_there n model s ≡ true → s ≤ cond (eqb model 1) n 6
unfolding session_there
session_most n model s t = leb-true s (cond (eqb model 1) n 6) (and_right (ltb 0 s) _ t)

pub session_to : (n model s : ℕ) → n ≤ 25 → session_there n model s ≡ true → s ≤ 25
session_to n model s h t = go (eqb model 1) (session_most n model s t)
  where
    go : (o : Bool) → s ≤ cond o n 6 → s ≤ 25
    go true l = omega arith
    go false l = omega arith

-- hour number k of a session that is there
pub hours_there : (n model s k : ℕ) → 23 ≤ n → n ≤ 25 → session_there n model s ≡ true → k < hours_in n model s
    → (1 ≤ first_hour n model s + k) × (first_hour n model s + k ≤ n)
unfolding first_hour hours_in
hours_there n model s k f h t l = go (eqb model 1) refl (leb s 1) refl (session_from n model s t) (session_most n model s t)
  where
    go : (o : Bool) → eqb model 1 ≡ o → (p : Bool) → leb s 1 ≡ p → 1 ≤ s → s ≤ cond (eqb model 1) n 6
        → (1 ≤ first_hour n model s + k) × (first_hour n model s + k ≤ n)
    go true e p q a z =
        let z' : s ≤ n = rw e at z in
        let l' : k < 1 = rw (e, hours_in) at l in
        rw (e, first_hour) (omega arith)
    go false e true q a z =
        let l' : k < 4 + n - 24 = rw (e, q, hours_in) at l in
        rw (e, q, first_hour) (omega arith)
    go false e false q a z =
        let z' : s ≤ 6 = rw e at z in
        let l' : k < 4 = rw (e, q, hours_in) at l in
        let b = leb-false s 1 q in
        rw (e, q, first_hour) (omega arith)

-- the session that holds an hour is there, and the hour is one of its hours
pub record HoldsHour (n model s hour : ℕ) : Type 0 where
  pub is_there : session_there n model s ≡ true
  pub from : first_hour n model s ≤ hour
  pub to : hour < first_hour n model s + hours_in n model s

pub session_of_hour : (n model hour : ℕ) → 23 ≤ n → n ≤ 25 → 1 ≤ hour → hour ≤ n → HoldsHour n model (session_of n model hour) hour
unfolding session_of session_there first_hour hours_in
session_of_hour n model hour f t a z = go (eqb model 1) refl (leb hour (4 + n - 24)) refl
  where
    go : (o : Bool) → eqb model 1 ≡ o → (p : Bool) → leb hour (4 + n - 24) ≡ p → HoldsHour n model (session_of n model hour) hour
    go true e p q =
        rw (e, session_of)
        (record {
          is_there = rw (e, session_there, lt-ltb 0 hour a) (le-leb hour n z);
          from = rw (e, first_hour) (omega arith);
          to = rw (e, first_hour, hours_in) (omega arith);
        })
    go false e true q =
        let b = leb-true hour (4 + n - 24) q in
        rw (e, q, session_of)
        (record {
          is_there = rw (e, session_there);
          from = rw (e, first_hour) a;
          to = rw (e, first_hour, hours_in) (omega arith);
        })
    go false e false q =
        let b = leb-false hour (4 + n - 24) q in
        let s : ℕ = 2 + (hour - (4 + n - 24) - 1) / 4 in
        let m : leb s 1 ≡ false = lt-leb s 1 (omega arith) in
        rw (e, q, session_of)
        (record {
          is_there = rw (e, session_there, lt-ltb 0 s (omega arith)) (le-leb s 6 (omega arith));
          from = rw (e, first_hour, m) (omega arith);
          to = rw (e, first_hour, hours_in, m) (omega arith);
        })
