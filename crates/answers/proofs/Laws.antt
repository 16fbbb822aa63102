-- From the tests of a call to its verdict, and from the verdict to the promise of the call.
-- Assumes nothing.
use Rattle.std.specs.Prelude.{Option, None, Result, Ok, Err, ok_or}
use Prim.Native.Nat.{ℕ}
use mathlib.Core.Path.{◌≡◌, refl, sym, ap, subst, ◌∙◌}
use mathlib.Core.Bool.{Bool, true, false, true≢false}
use mathlib.Core.List.{List, [], ◌∷◌}
use lib.Dec.{eqb}
use borrow.Author.Tests.{eq-eqb}
use Rattle.rules.specs.Book.{Book}
use Rattle.rules.specs.Calls.{Call}
use Rattle.rules.specs.Said.{said_refusal}
use Rattle.rules.specs.Refusals.{first_of, timing_of, too_early, too_late, refuses, number}
use Rattle.rules.specs.Effects.{effect}
use Rattle.rules.specs.Details.{detail, refusal}
use Rattle.rules.specs.Run.{applied}
use Rattle.rules.specs.declared.Refusal.{Refusal}
use Rattle.rules.specs.declared.Refusal.TheVariants.{TooEarly, TooLate}
use Rattle.rules.specs.declared.Timing.{Timing}
use Rattle.rules.specs.declared.Timing.TheVariants.{Early, Within, Late}
use Rattle.cells.specs.View.{book_of}
use Rattle.answers.specs.Promises.{Answers, Refused, Judged, window_verdict}

-- ---- from a verdict to the promise

pub refused : (b : List ℕ) (c : Call) (r : Refusal) → Refused (book_of b) c r → Answers b c (Err r) b
unfolding applied
refused b c r j = record { reply = rw j.0 j.1; book = rw j.0; kept = λ e. refl }

pub granted : (b b' : List ℕ) (c : Call) (n : ℕ) → number (book_of b) c ≡ 0 → n ≡ detail (book_of b) c → book_of b' ≡ effect (book_of b) c → Answers b c (Ok n) b'
unfolding applied
granted b b' c n j s e =
    record {
      reply = rw (eq-eqb _ _ j, s);
      book = rw (eq-eqb _ _ j) e;
      kept = λ f. absurd (true≢false f);
    }

-- what `ok_or` refuses, where nothing was found
pub refused_with : {A : Type 0} (r e : Refusal) (x : Option A) → ◌≡◌ {A = Result A Refusal} (Err r) (ok_or x e) → x ≡ None → r ≡ e
refused_with {A} r e x v n =
    let q : ◌≡◌ {A = Result A Refusal} (Err r) (Err e) = rw n at v in
    cc

-- ---- a test whose answer a call gave

pub told : {r t x : Bool} → r ≡ t → r ≡ x → t ≡ x
told e h = sym e ∙ h

-- ---- from the tests to a verdict

-- the tests passed so far leave the numbers ns
pub record Left (b : Book) (c : Call) (ns : List ℕ) : Type 0 where
  pub number_is : number b c ≡ first_of (refuses b c) ns

pub pass : {b : Book} {c : Call} {n : ℕ} {ns : List ℕ} → Left b c (n ∷ ns) → refuses b c n ≡ false → Left b c ns
unfolding first_of
pass l e = record { number_is = l.number_is ∙ rw e }

pub refuse : {b : Book} {c : Call} {n : ℕ} {ns : List ℕ} (r : Refusal) → Left b c (n ∷ ns) → refuses b c n ≡ true → eqb n 0 ≡ false
    → said_refusal r ≡ refusal b c n → Refused b c r
unfolding first_of
refuse r l e z s = rw (l.number_is, e) (z, s)

-- what the window finds decides on 16 and 8: a refusal, or the numbers after them are left
abbrev ByWindow : Book → Call → List ℕ → Result Unit Refusal → Type 0
ByWindow b c ns (Ok _) = Left b c ns
ByWindow b c ns (Err r) = Refused b c r

pub by_window : {b : Book} {c : Call} {ns : List ℕ} {t : Timing} → Left b c (16 ∷ 8 ∷ ns) → t ≡ timing_of b c → ByWindow b c ns (window_verdict t)
unfolding refuses refusal
by_window {t = Early} l e = refuse TooEarly l (ap too_early (sym e)) refl refl
by_window {t = Within} l e = pass (pass l (ap too_early (sym e))) (ap too_late (sym e))
by_window {t = Late} l e = refuse TooLate (pass l (ap too_early (sym e))) (ap too_late (sym e)) refl refl

pub window_refused : {b : Book} {c : Call} {ns : List ℕ} {t : Timing} {r : Refusal} → Left b c (16 ∷ 8 ∷ ns) → t ≡ timing_of b c → Err r ≡ window_verdict t → Refused b c r
window_refused {b} {c} {ns} l e q = subst (ByWindow b c ns) (sym q) (by_window l e)

pub window_passed : {b : Book} {c : Call} {ns : List ℕ} {t : Timing} {x : Unit {0}} → Left b c (16 ∷ 8 ∷ ns) → t ≡ timing_of b c → Ok x ≡ window_verdict t → Left b c ns
window_passed {b} {c} {ns} l e q = subst (ByWindow b c ns) (sym q) (by_window l e)

pub none_left : {b : Book} {c : Call} → Left b c [] → number b c ≡ 0
unfolding first_of
none_left l = l.number_is

-- where it is the last test, the window's verdict is that of the call
pub window_last : {b : Book} {c : Call} {t : Timing} → Left b c (16 ∷ 8 ∷ []) → t ≡ timing_of b c → Judged b c (window_verdict t)
window_last {t = Early} l e = by_window l e
window_last {t = Within} l e = none_left (by_window l e)
window_last {t = Late} l e = by_window l e
