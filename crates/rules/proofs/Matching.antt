-- Demand 3, confirmed MW: the read answers what the granted calls give, and these MW never exceed a side, nor together the right.
-- Assumes nothing.
use Rattle.std.specs.Prelude.{sum}
use Rattle.std.proofs.lemmas.Simd.{map-map}
use Prim.Native.Nat.{ℕ, zero, suc, ◌-◌, ◌≤◌, ◌<◌, zero-le}
use mathlib.Core.Path.{◌≡◌, refl, sym, ap, ◌∙◌}
use mathlib.Core.Bool.{Bool, true, false, cond, ◌||◌, not}
use mathlib.Core.List.{List, [], ◌∷◌, map}
use native.Mathlib.Nat.{le_refl, le_trans, le_of_eq, add-le-add, min-le_left, min-le_right}
use native.Mathlib.Omega.{arith}
use lib.Dec.{eqb, leb}
use lib.ListN.{length, get_or}
use borrow.Author.Tests.{eqb-true, eq-eqb, leb-false, lt-leb}
use Rattle.rules.specs.Basics.{no_mw, five}
use Rattle.rules.specs.Book.{Day, Right, Pair, Book, right, opened}
use Rattle.rules.specs.Calls.{Call}
use Rattle.rules.specs.Nominations.{is_pair_of, pair_taken, pair_of, confirmed_of, confirmed_at}
use Rattle.rules.specs.Refusals.{order, first_of, is_matched}
use Rattle.rules.specs.Run.{run}
use Rattle.rules.specs.Reads.{confirmed_reply, confirmed_read_refuses, read_confirmed}
use Rattle.rules.specs.History.{Key, is_key, has_key, directions_of, rights_from, pairs_from, last_side, was_matched, lower_mw, pairs_under, lower_values, lower_sum, confirmed_mw, confirmed_number, confirmed_by}
use Rattle.rules.specs.Rounding.{RoundedDown, count_above_zero, confirmed_list}
use Rattle.rules.specs.Demand3.{confirmed_in, confirmed_total, ProRata}
use Rattle.rules.proofs.Bools.{and_left, or-true}
use Rattle.rules.proofs.Sums.{sum_more}
use Rattle.rules.proofs.Rounding.{confirmed_le, confirmed_rounded, sum_within, sum_little_lost}
use Rattle.rules.proofs.Histories.{history, run_follows}
use Rattle.rules.proofs.Rights.{rights}
use Rattle.rules.proofs.Pairs.{has_key_lem, keys, lower_is, lower_total_lem}
use Rattle.rules.proofs.Matched.{matched_is}

-- ---- the read

five_same : (f g : ℕ → ℕ) → ((k : ℕ) → f k ≡ g k) → five f ≡ five g
five_same f g h = rw (h 0, h 1, h 2, h 3, h 4)

pub pair_right : (r o i : ℕ) (ps : List Pair) → (pair_of r o i ps).right ≡ r
unfolding pair_of is_pair_of
pair_right r o i [] = refl
pair_right r o i (x ∷ xs) = go (is_pair_of r o i x) refl (pair_right r o i xs)
  where
    go : (t : Bool) → is_pair_of r o i x ≡ t → (pair_of r o i xs).right ≡ r → (pair_of r o i (x ∷ xs)).right ≡ r
    go true t rest = rw t (eqb-true x.right r (and_left _ _ (and_left _ _ t)))
    go false t rest = rw t rest

-- the number of the read, by its tests
number_is : (b : Book) (r o i : ℕ)
    → first_of (confirmed_read_refuses b r o i) order
    ≡ cond (leb (length b.rights) r || not (pair_taken r o i b.pairs)) 6
    (cond (is_matched b.matched (right b.rights r).direction (right b.rights r).session) 0 12)
unfolding first_of order confirmed_read_refuses
number_is b r o i =
    go (leb (length b.rights) r || not (pair_taken r o i b.pairs)) (is_matched b.matched (right b.rights r).direction (right b.rights r).session)
  where
    go : (t m : Bool) → ◌≡◌ {A = ℕ} (cond t 6 (cond (not m) 12 0)) (cond t 6 (cond m 0 12))
    go true m = refl
    go false true = refl
    go false false = refl

module _ (day : Day) (f : 23 ≤ day.hours) (t : day.hours ≤ 25) (cs : List Call) where
  abbrev gs : List Call
  gs = history (opened day) cs

  abbrev end : Book
  end = (run (opened day) cs).book

  abbrev rs : List Right
  rs = rights_from (directions_of gs) [] gs

  mw_is : (r o i k : ℕ) → confirmed_at end.rights end.pairs k (pair_of r o i end.pairs) ≡ confirmed_mw rs gs r o i k
  unfolding confirmed_at
  mw_is r o i k = rw (pair_right r o i end.pairs, lower_total_lem day cs k r, lower_is day cs k r o i, rights day f t cs)

  -- where the right is there, its session was matched exactly where the history says so
  flag_same : (r : ℕ) → leb (length end.rights) r ≡ false
      → is_matched end.matched (right end.rights r).direction (right end.rights r).session
      ≡ was_matched (right end.rights r).direction (right end.rights r).session gs
  flag_same r e = rw (run_follows (opened day) cs).book (matched_is day f t cs r (rw (run_follows (opened day) cs).book at (leb-false (length end.rights) r e)))

  number_same : (r o i : ℕ) → first_of (confirmed_read_refuses end r o i) order ≡ confirmed_number rs gs r o i
  number_same r o i =
      number_is end r o i
      ∙ rw (← has_key_lem r o i end.pairs, keys day cs, ← rights day f t cs) (go (leb (length end.rights) r) refl)
    where
      go : (z : Bool) → leb (length end.rights) r ≡ z
          → ◌≡◌ {A = ℕ}
          (cond (z || not (has_key r o i (pairs_from [] gs))) 6 (cond (is_matched end.matched (right end.rights r).direction (right end.rights r).session) 0 12))
          (cond (z || not (has_key r o i (pairs_from [] gs))) 6 (cond (was_matched (right end.rights r).direction (right end.rights r).session gs) 0 12))
      go true e = refl
      go false e = rw (flag_same r e)

  pub confirmed_read : (r o i : ℕ) → read_confirmed end r o i ≡ confirmed_by rs gs r o i
  unfolding read_confirmed confirmed_by
  confirmed_read r o i = rw (number_same r o i) (ap (confirmed_reply (confirmed_number rs gs r o i)) (five_same _ _ (mw_is r o i)))

-- ---- what a read answers

-- in hour k, refused or not
reply_le : (number : ℕ) (g : ℕ → ℕ) (k : ℕ) → get_or (confirmed_reply number (five g)).mw k 0 ≤ g k
reply_le number g k = go (eqb number 0) k
  where
    go : (t : Bool) (k : ℕ) → get_or (cond t (five g) no_mw) k 0 ≤ g k
    go true zero = le_refl _
    go true (suc zero) = le_refl _
    go true (suc (suc zero)) = le_refl _
    go true (suc (suc (suc zero))) = le_refl _
    go true (suc (suc (suc (suc zero)))) = le_refl _
    go true (suc (suc (suc (suc (suc k))))) = zero-le
    go false zero = zero-le
    go false (suc zero) = zero-le
    go false (suc (suc zero)) = zero-le
    go false (suc (suc (suc zero))) = zero-le
    go false (suc (suc (suc (suc zero)))) = zero-le
    go false (suc (suc (suc (suc (suc k))))) = zero-le

-- the first five are those of the hours
reply_is : (g : ℕ → ℕ) (k : ℕ) → k < 5 → get_or (confirmed_reply 0 (five g)).mw k 0 ≡ g k
reply_is g zero h = refl
reply_is g (suc zero) h = refl
reply_is g (suc (suc zero)) h = refl
reply_is g (suc (suc (suc zero))) h = refl
reply_is g (suc (suc (suc (suc zero)))) h = refl
reply_is g (suc (suc (suc (suc (suc k))))) h = absurd (omega (arith, h))

-- sums over the pairs of right r
sums_le : (f g : Key → ℕ) (r : ℕ) (xs : List Key) → ((x : Key) → x.right ≡ r → has_key r x.out x.into xs ≡ true → f x ≤ g x)
    → sum (map f (pairs_under r xs)) ≤ sum (map g (pairs_under r xs))
unfolding has_key is_key
sums_le f g r [] each = zero-le
sums_le f g r (x ∷ xs) each =
    go (eqb x.right r) refl (sums_le f g r xs (λ y e h. each y e (rw h (or-true (is_key r y.out y.into x)))))
  where
    go : (t : Bool) → eqb x.right r ≡ t → sum (map f (pairs_under r xs)) ≤ sum (map g (pairs_under r xs))
        → sum (map f (cond t (x ∷ pairs_under r xs) (pairs_under r xs))) ≤ sum (map g (cond t (x ∷ pairs_under r xs) (pairs_under r xs)))
    go true e rest =
        rw (sum_more (f x) (map f (pairs_under r xs)), sum_more (g x) (map g (pairs_under r xs)))
        (add-le-add (each x (eqb-true x.right r e) (rw (e, eq-eqb x.out x.out refl, eq-eqb x.into x.into refl) refl)) rest)
    go false e rest = rest

-- ---- a book whose reads of confirmed MW are those of the rights rs and the granted calls gs

module _ (b : Book) (rs : List Right) (gs : List Call) (reads : (r o i : ℕ) → read_confirmed b r o i ≡ confirmed_by rs gs r o i) where
  read_le : (k r o i : ℕ) → confirmed_in b k r o i ≤ confirmed_mw rs gs r o i k
  unfolding confirmed_by
  read_le k r o i = rw (reads r o i) (reply_le (confirmed_number rs gs r o i) (confirmed_mw rs gs r o i) k)

  lower_le : (k r o i : ℕ) → confirmed_in b k r o i ≤ lower_mw gs k r o i
  lower_le k r o i = le_trans (read_le k r o i) (confirmed_le _ _ _)

  pub within_out : (r o i k : ℕ) → confirmed_in b k r o i ≤ get_or (last_side r o i 0 no_mw gs) k 0
  within_out r o i k = le_trans (lower_le k r o i) (min-le_left _ _)

  pub within_into : (r o i k : ℕ) → confirmed_in b k r o i ≤ get_or (last_side r o i 1 no_mw gs) k 0
  within_into r o i k = le_trans (lower_le k r o i) (min-le_right _ _)

  module _ (r k : ℕ) where
    abbrev R : ℕ
    R = get_or (right rs r).mw k 0

    abbrev T : ℕ
    T = lower_sum gs k r

    abbrev read_of : Key → ℕ
    read_of x = confirmed_in b k x.right x.out x.into

    abbrev lower_of : Key → ℕ
    lower_of x = lower_mw gs k x.right x.out x.into

    abbrev by_rule : Key → ℕ
    by_rule x = confirmed_of R T (lower_of x)

    list_is : sum (confirmed_list R (lower_values gs k r)) ≡ sum (map by_rule (pairs_under r (pairs_from [] gs)))
    list_is = ap sum (map-map (λ m. confirmed_of R T m) lower_of (pairs_under r (pairs_from [] gs)))

    -- a pair of this right
    one_le : (x : Key) → x.right ≡ r → read_of x ≤ by_rule x
    one_le x e =
        le_trans (read_le k x.right x.out x.into)
        (le_of_eq (ap (λ (y : ℕ). confirmed_of (get_or (right rs y).mw k 0) (lower_sum gs k y) (lower_of x)) e))

    pub within_right : confirmed_total b k r (pairs_from [] gs) ≤ R
    within_right = le_trans (sums_le read_of by_rule r (pairs_from [] gs) (λ x e h. one_le x e)) (rw list_is at (sum_within R (lower_values gs k r)))

    -- 02, S-4
    module _ (p : ProRata rs gs r k) where
      -- each read is granted
      granted_read : (o i : ℕ) → has_key r o i (pairs_from [] gs) ≡ true → confirmed_in b k r o i ≡ confirmed_of R T (lower_mw gs k r o i)
      unfolding confirmed_by
      granted_read o i h = rw (reads r o i, lt-leb (length rs) r p.there, h, p.matched) (reply_is (confirmed_mw rs gs r o i) k (omega (arith, p.hour)))

      pub rounded_down : (o i : ℕ) → has_key r o i (pairs_from [] gs) ≡ true → RoundedDown R T (lower_mw gs k r o i) (confirmed_in b k r o i)
      rounded_down o i h = rw (granted_read o i h) (confirmed_rounded R T (lower_mw gs k r o i) p.above)

      one_ge : (x : Key) → x.right ≡ r → has_key r x.out x.into (pairs_from [] gs) ≡ true → by_rule x ≤ read_of x
      one_ge x e h = rw e (le_of_eq (sym (granted_read x.out x.into h)))

      pub little_lost : R - confirmed_total b k r (pairs_from [] gs) < count_above_zero (lower_values gs k r)
      little_lost =
          let all : sum (confirmed_list R (lower_values gs k r)) ≤ confirmed_total b k r (pairs_from [] gs) =
          rw list_is (sums_le by_rule read_of r (pairs_from [] gs) one_ge) in
          omega (arith, all, sum_little_lost R (lower_values gs k r) p.above)
