-- Demand 3, nominations: each pair stands once, and each side has the MW of its last granted nomination.
-- Assumes nothing.
use Rattle.std.specs.Prelude.{sum}
use Prim.Native.Nat.{ℕ, zero, suc, ◌+◌, ◌≤◌}
use mathlib.Core.Path.{◌≡◌, refl, sym, ap, ◌∙◌, subst⁻¹}
use mathlib.Core.Bool.{Bool, true, false, cond, ◌&&◌}
use mathlib.Core.List.{List, [], ◌∷◌, ◌++◌, map}
use native.Mathlib.Omega.{arith}
use lib.Dec.{eqb, ltb}
use borrow.Author.Tests.{eqb-true, eqb-false, eq-eqb, ne_eqb, ltb-false}
use Rattle.rules.specs.Basics.{has, no_mw}
use Rattle.rules.specs.Windows.{latest}
use Rattle.rules.specs.Book.{Day, Pair, Book, opened}
use Rattle.rules.specs.Calls.{Call, AddDirection, AddProfile, AddParty, OfferDirection, OfferProfile, Bid, Nominate, Match}
use Rattle.rules.specs.Nominations.{out_of, into_of, is_pair_of, pair_taken, pair_of, with_side, with_pair, side_of, lower, lower_total}
use Rattle.rules.specs.Refusals.{order, refuses, field}
use Rattle.rules.specs.Effects.{pairs_after, effect}
use Rattle.rules.specs.Run.{run}
use Rattle.rules.specs.History.{Key, is_key, has_key, out_party, into_party, pairs_with, pairs_then, pairs_from, side_after, last_side, lower_mw, pairs_under, lower_sum}
use Rattle.rules.proofs.Bools.{and_left, and_right, or_left, or_right}
use Rattle.rules.proofs.Sums.{sum_more}
use Rattle.rules.proofs.Decisions.{Granted, fails}
use Rattle.rules.proofs.Histories.{after, AllGranted, history, run_follows}

-- ---- the sides of a nomination

-- the side of a nomination, 0 or 1
data Side : ℕ → Type 0 where
  out_side : Side 0
  into_side : Side 1

side_of_lem : (side : ℕ) → side ≤ 1 → Side side
side_of_lem zero h = out_side
side_of_lem (suc zero) h = into_side
side_of_lem (suc (suc k)) h = absurd (omega arith)

granted_side : (b : Book) (time sender other r side : ℕ) (mw : List ℕ) → Granted b (Nominate time sender other r side mw) → Side side
unfolding order has refuses field
granted_side b time sender other r side mw g = side_of_lem side (ltb-false 1 side (or_right (ltb latest time) _ (or_left _ _ (fails g 3 tt))))

-- the parties of a granted nomination, as the book and as the history name them
out_same : {side : ℕ} (sender other : ℕ) → Side side → out_of sender other side ≡ out_party sender other side
out_same sender other out_side = refl
out_same sender other into_side = refl

into_same : {side : ℕ} (sender other : ℕ) → Side side → into_of sender other side ≡ into_party sender other side
into_same sender other out_side = refl
into_same sender other into_side = refl

-- ---- the pairs are those of the granted nominations

abbrev key_of : Pair → Key
key_of x = record { right = x.right; out = x.out; into = x.into }

abbrev pub keys_of : List Pair → List Key
keys_of [] = []
keys_of (x ∷ xs) = key_of x ∷ keys_of xs

pub has_key_lem : (r o i : ℕ) (ps : List Pair) → has_key r o i (keys_of ps) ≡ pair_taken r o i ps
unfolding has_key is_key pair_taken is_pair_of
has_key_lem r o i [] = refl
has_key_lem r o i (x ∷ xs) = rw (has_key_lem r o i xs)

keys_with : (r o i side : ℕ) (mw : List ℕ) (ps : List Pair) → keys_of (with_pair r o i side mw ps) ≡ pairs_with r o i (keys_of ps)
unfolding with_pair with_side pairs_with has_key
keys_with r o i side mw [] = refl
keys_with r o i side mw (x ∷ xs) = go (is_pair_of r o i x) refl (has_key r o i (keys_of xs)) refl (keys_with r o i side mw xs)
  where
    go : (t : Bool) → is_pair_of r o i x ≡ t → (u : Bool) → has_key r o i (keys_of xs) ≡ u
        → keys_of (with_pair r o i side mw xs) ≡ pairs_with r o i (keys_of xs)
        → keys_of (with_pair r o i side mw (x ∷ xs)) ≡ pairs_with r o i (key_of x ∷ keys_of xs)
    go true t u q rest = rw t (unfold is_pair_of is_key in rw t)
    go false t u q rest = rw t (unfold is_pair_of is_key in rw (t, rest) (again (has_key r o i (keys_of xs))))
      where
        again : (v : Bool) → (key_of x ∷ cond v (keys_of xs) (keys_of xs ++ (record { right = r; out = o; into = i } ∷ [])))
            ≡ cond v (key_of x ∷ keys_of xs) (key_of x ∷ (keys_of xs ++ (record { right = r; out = o; into = i } ∷ [])))
        again true = refl
        again false = refl

keys_step : (b : Book) (c : Call) → Granted b c → keys_of (pairs_after b.pairs c) ≡ pairs_then (keys_of b.pairs) c
unfolding pairs_after
keys_step b (AddDirection o i m) g = refl
keys_step b (AddProfile map) g = refl
keys_step b (AddParty code access) g = refl
keys_step b (OfferDirection time d h mw) g = refl
keys_step b (OfferProfile time k h mw) g = refl
keys_step b (Bid time k d session mw) g = refl
keys_step b (Nominate time sender other r side mw) g =
    let s = granted_side b time sender other r side mw g in
    rw (← out_same sender other s, ← into_same sender other s) (keys_with r (out_of sender other side) (into_of sender other side) side mw b.pairs)
keys_step b (Match time d session) g = refl

keys_after : (b : Book) (cs : List Call) → AllGranted b cs → keys_of (after b cs).pairs ≡ pairs_from (keys_of b.pairs) cs
unfolding pairs_from effect
keys_after b [] g = refl
keys_after b (c ∷ cs) g = rw (← keys_step b c g.0) (keys_after (effect b c) cs g.1)

pub keys : (day : Day) (cs : List Call) → keys_of (run (opened day) cs).book.pairs ≡ pairs_from [] (history (opened day) cs)
unfolding opened
keys day cs =
    let w = run_follows (opened day) cs in
    rw w.book (keys_after (opened day) (history (opened day) cs) w.granted)

-- ---- right, out party and in party compared

abbrev key : ℕ → ℕ → ℕ → ℕ → ℕ → ℕ → Bool
key r o i r' o' i' = eqb r' r && eqb o' o && eqb i' i

eqb-sym : (a b : ℕ) → eqb a b ≡ eqb b a
eqb-sym a b = go (eqb a b) refl
  where
    go : (t : Bool) → eqb a b ≡ t → t ≡ eqb b a
    go true e = sym (eq-eqb b a (sym (eqb-true a b e)))
    go false e = sym (ne_eqb b a (λ q. eqb-false a b e (sym q)))

key_sym : (r o i r' o' i' : ℕ) → key r o i r' o' i' ≡ key r' o' i' r o i
key_sym r o i r' o' i' = rw (eqb-sym r' r, eqb-sym o' o, eqb-sym i' i)

key_refl : (r o i : ℕ) → key r o i r o i ≡ true
key_refl r o i = rw (eq-eqb r r refl, eq-eqb o o refl, eq-eqb i i refl)

record Same (r o i r' o' i' : ℕ) : Type 0 where
  pub right : r' ≡ r
  pub out : o' ≡ o
  pub into : i' ≡ i

key_true : (r o i r' o' i' : ℕ) → key r o i r' o' i' ≡ true → Same r o i r' o' i'
key_true r o i r' o' i' e =
    record {
      right = eqb-true r' r (and_left _ _ (and_left _ _ e));
      out = eqb-true o' o (and_right (eqb r' r) _ (and_left _ _ e));
      into = eqb-true i' i (and_right (eqb r' r && eqb o' o) _ e);
    }

-- ---- the sides

met : (r o i r' o' i' : ℕ) (x : Pair) (s : Bool) → key r' o' i' x.right x.out x.into ≡ true → key r o i x.right x.out x.into ≡ s
    → key r o i r' o' i' ≡ s
met r o i r' o' i' x s t u =
    let z = key_true r' o' i' x.right x.out x.into t in
    rw (← z.right, ← z.out, ← z.into) u

apart : (r o i r' o' i' : ℕ) (x : Pair) → key r' o' i' x.right x.out x.into ≡ false → key r o i x.right x.out x.into ≡ true
    → key r o i r' o' i' ≡ false
apart r o i r' o' i' x t u =
    let z = key_true r o i x.right x.out x.into u in
    rw (key_sym r o i r' o' i', ← z.right, ← z.out, ← z.into) t

-- a pair after a nomination for the pair (r', o', i')
pair_with : (r o i r' o' i' side : ℕ) (mw : List ℕ) (ps : List Pair)
    → pair_of r o i (with_pair r' o' i' side mw ps) ≡ cond (key r o i r' o' i') (with_side side mw (pair_of r o i ps)) (pair_of r o i ps)
unfolding pair_of with_pair with_side is_pair_of
pair_with r o i r' o' i' side mw [] = go (key r o i r' o' i') refl
  where
    go : (t : Bool) → key r o i r' o' i' ≡ t
        → pair_of r o i (with_pair r' o' i' side mw []) ≡ cond (key r o i r' o' i') (with_side side mw (pair_of r o i [])) (pair_of r o i [])
    go true e =
        let s = key_true r o i r' o' i' e in
        rw e (rw (s.right, s.out, s.into))
    go false e = rw e
pair_with r o i r' o' i' side mw (x ∷ xs) = go (is_pair_of r' o' i' x) refl (is_pair_of r o i x) refl (pair_with r o i r' o' i' side mw xs)
  where
    go : (t : Bool) → is_pair_of r' o' i' x ≡ t → (s : Bool) → is_pair_of r o i x ≡ s
        → pair_of r o i (with_pair r' o' i' side mw xs) ≡ cond (key r o i r' o' i') (with_side side mw (pair_of r o i xs)) (pair_of r o i xs)
        → pair_of r o i (with_pair r' o' i' side mw (x ∷ xs))
        ≡ cond (key r o i r' o' i') (with_side side mw (pair_of r o i (x ∷ xs))) (pair_of r o i (x ∷ xs))
    go true t true u rest = rw t (rw (u, met r o i r' o' i' x true t u))
    go true t false u rest = rw t (rw (u, met r o i r' o' i' x false t u))
    go false t true u rest = rw t (rw (u, apart r o i r' o' i' x t u))
    go false t false u rest = rw t (rw u rest)

-- one side of a pair after a nomination
side_with : (r o i s r' o' i' side : ℕ) (mw : List ℕ) (ps : List Pair) → Side s → Side side
    → side_of s (pair_of r o i (with_pair r' o' i' side mw ps)) ≡ cond (key r o i r' o' i' && eqb side s) mw (side_of s (pair_of r o i ps))
side_with r o i s r' o' i' side mw ps a e = rw (pair_with r o i r' o' i' side mw ps) (go (key r o i r' o' i') a e)
  where
    go : {s side : ℕ} (t : Bool) → Side s → Side side
        → side_of s (cond t (with_side side mw (pair_of r o i ps)) (pair_of r o i ps)) ≡ cond (t && eqb side s) mw (side_of s (pair_of r o i ps))
    go false a e = refl
    go true out_side out_side = unfold with_side in refl
    go true out_side into_side = unfold with_side in refl
    go true into_side out_side = unfold with_side in refl
    go true into_side into_side = unfold with_side in refl

module _ (r o i s : ℕ) (a : Side s) where
  side_step : (b : Book) (c : Call) → Granted b c → (ps : List Pair)
      → side_of s (pair_of r o i (pairs_after ps c)) ≡ side_after r o i s (side_of s (pair_of r o i ps)) c
  unfolding pairs_after side_after
  side_step b (AddDirection o' i' m) g ps = refl
  side_step b (AddProfile map) g ps = refl
  side_step b (AddParty code access) g ps = refl
  side_step b (OfferDirection time d h mw) g ps = refl
  side_step b (OfferProfile time k h mw) g ps = refl
  side_step b (Bid time k d session mw) g ps = refl
  side_step b (Nominate time sender other r' side mw) g ps =
      let e = granted_side b time sender other r' side mw g in
      rw (← out_same sender other e, ← into_same sender other e) (side_with r o i s r' (out_of sender other side) (into_of sender other side) side mw ps a e)
  side_step b (Match time d session) g ps = refl

  side_after_lem : (b : Book) (cs : List Call) → AllGranted b cs
      → side_of s (pair_of r o i (after b cs).pairs) ≡ last_side r o i s (side_of s (pair_of r o i b.pairs)) cs
  unfolding last_side effect
  side_after_lem b [] g = refl
  side_after_lem b (c ∷ cs) g = rw (← side_step b c g.0 b.pairs) (side_after_lem (effect b c) cs g.1)

-- ---- each pair stands once

abbrev Unique : List Pair → Type 0
Unique [] = Unit {0}
Unique (x ∷ xs) = (pair_taken x.right x.out x.into xs ≡ false) × Unique xs

taken_with : (r o i r' o' i' side : ℕ) (mw : List ℕ) (ps : List Pair) → key r o i r' o' i' ≡ false → pair_taken r o i ps ≡ false
    → pair_taken r o i (with_pair r' o' i' side mw ps) ≡ false
unfolding pair_taken with_pair with_side is_pair_of
taken_with r o i r' o' i' side mw [] k e = rw k
taken_with r o i r' o' i' side mw (x ∷ xs) k e =
    go (is_pair_of r' o' i' x) refl (taken_with r o i r' o' i' side mw xs k (or_right (is_pair_of r o i x) _ e))
  where
    go : (t : Bool) → is_pair_of r' o' i' x ≡ t → pair_taken r o i (with_pair r' o' i' side mw xs) ≡ false
        → pair_taken r o i (with_pair r' o' i' side mw (x ∷ xs)) ≡ false
    go true t rest = rw t e
    go false t rest = rw t (rw (or_left (is_pair_of r o i x) _ e) rest)

unique_with : (r o i side : ℕ) (mw : List ℕ) (ps : List Pair) → Unique ps → Unique (with_pair r o i side mw ps)
unfolding with_pair with_side is_pair_of pair_taken
unique_with r o i side mw [] u = (refl, tt)
unique_with r o i side mw (x ∷ xs) u = go (is_pair_of r o i x) refl (unique_with r o i side mw xs u.1)
  where
    go : (t : Bool) → is_pair_of r o i x ≡ t → Unique (with_pair r o i side mw xs) → Unique (with_pair r o i side mw (x ∷ xs))
    go true e rest = rw e u
    go false e rest =
        rw e (taken_with x.right x.out x.into r o i side mw xs (key_sym x.right x.out x.into r o i ∙ e) u.0, rest)

unique_step : (ps : List Pair) (c : Call) → Unique ps → Unique (pairs_after ps c)
unfolding pairs_after
unique_step ps (AddDirection o i m) u = u
unique_step ps (AddProfile map) u = u
unique_step ps (AddParty code access) u = u
unique_step ps (OfferDirection time d h mw) u = u
unique_step ps (OfferProfile time k h mw) u = u
unique_step ps (Bid time k d session mw) u = u
unique_step ps (Nominate time sender other r side mw) u = unique_with r (out_of sender other side) (into_of sender other side) side mw ps u
unique_step ps (Match time d session) u = u

unique_after : (b : Book) (cs : List Call) → Unique b.pairs → Unique (after b cs).pairs
unfolding effect
unique_after b [] u = u
unique_after b (c ∷ cs) u = unique_after (effect b c) cs (unique_step b.pairs c u)

-- the table's entry for a pair's own key is that pair
abbrev pub Own : List Pair → List Pair → Type 0
Own ps [] = Unit {0}
Own ps (x ∷ xs) = (pair_of x.right x.out x.into ps ≡ x) × Own ps xs

own_more : (x : Pair) (ps qs : List Pair) → pair_taken x.right x.out x.into qs ≡ false → Own ps qs → Own (x ∷ ps) qs
unfolding pair_of is_pair_of pair_taken
own_more x ps [] e w = tt
own_more x ps (y ∷ qs) e w =
    let k : key y.right y.out y.into x.right x.out x.into ≡ false =
    key_sym y.right y.out y.into x.right x.out x.into ∙ or_left _ _ e in
    (rw k w.0, own_more x ps qs (or_right (is_pair_of x.right x.out x.into y) _ e) w.1)

own : (ps : List Pair) → Unique ps → Own ps ps
unfolding pair_of is_pair_of
own [] u = tt
own (x ∷ xs) u = (rw (key_refl x.right x.out x.into), own_more x xs xs u.0 (own xs u.1))

-- ---- the demand

module _ (day : Day) (cs : List Call) where
  abbrev gs : List Call
  gs = history (opened day) cs

  abbrev ps : List Pair
  ps = (run (opened day) cs).book.pairs

  at_the_end : ps ≡ (after (opened day) gs).pairs
  at_the_end = ap (λ (b : Book). b.pairs) (run_follows (opened day) cs).book

  -- a pair's sides are its last granted nominations, no MW if none
  side : (s : ℕ) → Side s → (r o i : ℕ) → side_of s (pair_of r o i ps) ≡ last_side r o i s (side_of s (pair_of r o i [])) gs
  unfolding opened
  side s a r o i =
      ap (λ (qs : List Pair). side_of s (pair_of r o i qs)) at_the_end ∙ side_after_lem r o i s a (opened day) gs (run_follows (opened day) cs).granted

  pub out_side_lem : (r o i : ℕ) → (pair_of r o i ps).out_mw ≡ last_side r o i 0 no_mw gs
  unfolding pair_of
  out_side_lem r o i = side 0 out_side r o i

  pub into_side_lem : (r o i : ℕ) → (pair_of r o i ps).into_mw ≡ last_side r o i 1 no_mw gs
  unfolding pair_of
  into_side_lem r o i = side 1 into_side r o i

  pub owned : Own ps ps
  unfolding opened
  owned = own ps (subst⁻¹ Unique at_the_end (unique_after (opened day) gs tt))

  -- the lower values, and their sum over a right's pairs
  pub lower_is : (k r o i : ℕ) → lower k (pair_of r o i ps) ≡ lower_mw gs k r o i
  lower_is k r o i = rw (out_side_lem r o i, into_side_lem r o i)

  abbrev lower_of : ℕ → Key → ℕ
  lower_of k x = lower_mw gs k x.right x.out x.into

  total_is : (k r : ℕ) (qs : List Pair) → Own ps qs → lower_total r k qs ≡ sum (map (lower_of k) (pairs_under r (keys_of qs)))
  unfolding lower_total
  total_is k r [] w = refl
  total_is k r (x ∷ qs) w = go (eqb x.right r) (total_is k r qs w.1)
    where
      go : (t : Bool) → lower_total r k qs ≡ sum (map (lower_of k) (pairs_under r (keys_of qs)))
          → cond t (lower k x) 0 + lower_total r k qs ≡ sum (map (lower_of k) (cond t (key_of x ∷ pairs_under r (keys_of qs)) (pairs_under r (keys_of qs))))
      go true rest =
          rw (sum_more (lower_of k (key_of x)) (map (lower_of k) (pairs_under r (keys_of qs))), ← rest, ← lower_is k x.right x.out x.into, w.0) refl
      go false rest = omega (arith, rest)

  pub lower_total_lem : (k r : ℕ) → lower_total r k ps ≡ lower_sum gs k r
  lower_total_lem k r = total_is k r ps owned ∙ ap (λ ks. sum (map (lower_of k) (pairs_under r ks))) (keys day cs)
