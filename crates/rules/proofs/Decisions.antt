-- Demand 1, and what a grant says of each condition.
-- Assumes nothing.
use Prim.Native.Nat.{ℕ, zero, suc}
use mathlib.Core.Path.{◌≡◌, refl, sym, subst}
use mathlib.Core.Bool.{Bool, true, false, ◌||◌, ◌&&◌, not, true≢false, or-true}
use mathlib.Core.List.{List, [], ◌∷◌, ◌++◌}
use native.Mathlib.Omega.{arith}
use lib.Dec.{T, eqb}
use borrow.Author.Tests.{eqb-true, eqb-false, eq-eqb}
use Rattle.rules.specs.Basics.{has}
use Rattle.rules.specs.Book.{Book}
use Rattle.rules.specs.Calls.{Call, is_grant}
use Rattle.rules.specs.Refusals.{order, before, first_of, refuses, number}
use Rattle.rules.specs.Details.{refusal}
use Rattle.rules.specs.Run.{applied}
use Rattle.rules.specs.Opening.{opening_refuses, opening}
use Rattle.rules.specs.Reads.{direction_read_refuses, read_direction, profile_read_refuses, read_profile, right_read_refuses, read_right, confirmed_read_refuses, read_confirmed}
use Rattle.rules.specs.Records.{writer_refuses, writing, reader_refuses, reading}
use Rattle.rules.specs.Demand1.{None, listed, EachOnce, First, granting, refusing, Demand1}
use Rattle.rules.specs.declared.CallRecord.{CallRecord}
use Rattle.rules.proofs.Listed.{Listed, calls_listed, openings_listed, directions_listed, profiles_listed, rights_listed, confirmed_listed, readers_listed, writers_listed}

-- what is not 0 is a number whose condition holds
pub refused_so : (f : ℕ → Bool) (ns : List ℕ) (n : ℕ) → first_of f ns ≡ n → (n ≡ 0 → ⊥) → f n ≡ true
unfolding first_of
refused_so f [] n e z = absurd (z (sym e))
refused_so f (m ∷ ms) n e z = go (f m) refl (λ k. refused_so f ms n k z)
  where
    go : (t : Bool) → f m ≡ t → (first_of f ms ≡ n → f n ≡ true) → f n ≡ true
    go true p rest = subst (λ (k : ℕ). f k ≡ true) (rw p at e) p
    go false p rest = rest (rw p at e)

-- and those before it don't
pub passed : (f : ℕ → Bool) (ns : List ℕ) (n : ℕ) → first_of f ns ≡ n → None f (before n ns)
unfolding first_of before
passed f [] n e = tt
passed f (m ∷ ms) n e = go (f m) refl (eqb m n) refl (λ k. passed f ms n k)
  where
    go : (x : Bool) → f m ≡ x → (y : Bool) → eqb m n ≡ y → (first_of f ms ≡ n → None f (before n ms)) → None f (before n (m ∷ ms))
    go x p true q rest = rw q tt
    go true p false q rest = absurd (eqb-false m n q (rw p at e))
    go false p false q rest = rw q (p, rest (rw p at e))

-- it is one of them
found_among : (f : ℕ → Bool) (ns : List ℕ) (n : ℕ) → first_of f ns ≡ n → (n ≡ 0 → ⊥) → has n ns ≡ true
unfolding first_of has
found_among f [] n e z = absurd (z (sym e))
found_among f (m ∷ ms) n e z = go (f m) refl (λ k. found_among f ms n k z)
  where
    go : (t : Bool) → f m ≡ t → (first_of f ms ≡ n → has n ms ≡ true) → has n (m ∷ ms) ≡ true
    go true p rest = rw (eq-eqb m n (rw p at e))
    go false p rest = rw (rest (rw p at e), or-true (eqb m n))

-- where 0 was found, no condition holds
abbrev positive : List ℕ → Bool
positive [] = true
positive (n ∷ ns) = not (eqb n 0) && positive ns

clear : (f : ℕ → Bool) (ns : List ℕ) → T (positive ns) → first_of f ns ≡ 0 → None f ns
unfolding first_of
clear f [] t e = tt
clear f (n ∷ ns) t e = go (f n) refl (eqb n 0) refl (λ s k. clear f ns s k)
  where
    go : (x : Bool) → f n ≡ x → (z : Bool) → eqb n 0 ≡ z → (T (positive ns) → first_of f ns ≡ 0 → None f ns) → (f n ≡ false) × None f ns
    go x p true q rest = absurd (rw q at t)
    go true p false q rest = absurd (eqb-false n 0 q (rw p at e))
    go false p false q rest = (p, rest (rw q at t) (rw p at e))

-- numbers whose conditions fail may be left out in front
pub none_before : (f : ℕ → Bool) (ms ns : List ℕ) → None f ms → first_of f (ms ++ ns) ≡ first_of f ns
unfolding first_of
none_before f [] ns h = refl
none_before f (m ∷ ms) ns h = rw h.0 (none_before f ms ns h.1)

in_order : order ≡ listed
unfolding order
in_order = refl

each_once : EachOnce listed
unfolding has
each_once = (refl, (refl, (refl, (refl, (refl, (refl, (refl, (refl, (refl, (refl, (refl, (refl, (refl, (refl, (refl, tt)))))))))))))))

-- one of the numbers; where the list unfolds, `tt` shows that n is in it
pub at : (f : ℕ → Bool) (n : ℕ) (ns : List ℕ) → None f ns → T (has n ns) → f n ≡ false
unfolding has
at f n [] h t = absurd t
at f n (m ∷ ms) h t = go (eqb m n) refl t (λ s. at f n ms h.1 s)
  where
    go : (x : Bool) → eqb m n ≡ x → T (x || has n ms) → (T (has n ms) → f n ≡ false) → f n ≡ false
    go true e s rest = subst (λ (k : ℕ). f k ≡ false) (eqb-true m n e) h.0
    go false e s rest = rest s

-- where every condition that can hold has its number in the list, what fails at each of the list fails at every number
nowhere : (f : ℕ → Bool) → Listed f → None f listed → (n : ℕ) → f n ≡ false
nowhere f l h n = go (f n) refl
  where
    go : (x : Bool) → f n ≡ x → f n ≡ false
    go true p = at f n listed h (rw (l n p) tt)
    go false p = p

first : (f : ℕ → Bool) → Listed f → First f (first_of f order)
first f l = rw in_order (go (first_of f listed) refl)
  where
    go : (n : ℕ) → first_of f listed ≡ n → First f n
    go zero e = granting (nowhere f l (clear f listed tt e))
    go (suc n) e = refusing (suc n) (found_among f listed (suc n) e (λ z. omega arith)) (refused_so f listed (suc n) e (λ z. omega arith)) (passed f listed (suc n) e)

pub applied_number : (b : Book) (c : Call) → (applied b c).reply.number ≡ number b c
unfolding applied refusal
applied_number b c = go (eqb (number b c) 0) refl
  where
    go : (t : Bool) → eqb (number b c) 0 ≡ t → (applied b c).reply.number ≡ number b c
    go true e = rw (e, applied) (sym (eqb-true (number b c) 0 e))
    go false e = rw (e, applied)

applied_kept : (b : Book) (c : Call) → is_grant (applied b c).reply ≡ false → (applied b c).book ≡ b
unfolding applied refusal
applied_kept b c h = go (eqb (number b c) 0) refl
  where
    go : (t : Bool) → eqb (number b c) 0 ≡ t → (applied b c).book ≡ b
    go true e = absurd (true≢false (rw (e, applied) at h))
    go false e = rw (e, applied)

writing_kept : (c : CallRecord) (buffer : List ℕ) → is_grant (writing c buffer).reply ≡ false → (writing c buffer).buffer ≡ buffer
unfolding writing
writing_kept c buffer h = rw h

pub demand1 : Demand1
unfolding opening read_direction read_profile read_right read_confirmed reading writing
demand1 =
    record {
      in_order = in_order;
      each_once = each_once;
      calls = λ b c. rw (applied_number b c) (first (refuses b c) (calls_listed b c));
      calls_kept = applied_kept;
      openings = λ y m d. (first (opening_refuses y m d) (openings_listed y m d), (refl, refl));
      left_of_directions = λ b d hour. (first (direction_read_refuses b d hour) (directions_listed b d hour), (refl, refl));
      left_of_profiles = λ b p hour. (first (profile_read_refuses b p hour) (profiles_listed b p hour), (refl, refl));
      rights = λ b r. (first (right_read_refuses b r) (rights_listed b r), (refl, refl));
      confirmed = λ b r o i. (first (confirmed_read_refuses b r o i) (confirmed_listed b r o i), (refl, refl));
      readers = λ s. (first (reader_refuses s) (readers_listed s), (refl, refl));
      writers = λ c buffer. first (writer_refuses c buffer) (writers_listed c buffer);
      writers_kept = writing_kept;
    }

-- ---- what a grant says of each condition

pub record Granted (b : Book) (c : Call) : Type 0 where
  pub none : None (refuses b c) order

-- the condition n fails where the call is granted; where `order` and `has` unfold, `tt` shows that n is in it
pub fails : {b : Book} {c : Call} → Granted b c → (n : ℕ) → T (has n order) → refuses b c n ≡ false
fails {b} {c} g n t = at (refuses b c) n order g.none t

pub is_granted : (b : Book) (c : Call) → eqb (number b c) 0 ≡ true → Granted b c
unfolding order
is_granted b c e = record { none = clear (refuses b c) order tt (eqb-true (number b c) 0 e) }
