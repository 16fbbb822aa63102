-- A list of calls does to the book what its granted calls do, one after the other; the refused calls may be struck out.
-- Assumes nothing.
use mathlib.Core.Path.{◌≡◌, refl, subst⁻¹}
use mathlib.Core.Bool.{Bool, true, false, cond}
use mathlib.Core.List.{List, [], ◌∷◌}
use lib.Dec.{eqb}
use Rattle.rules.specs.Book.{Book}
use Rattle.rules.specs.Calls.{Call, is_grant}
use Rattle.rules.specs.Refusals.{number}
use Rattle.rules.specs.Effects.{effect}
use Rattle.rules.specs.Details.{detail, refusal}
use Rattle.rules.specs.Run.{Step, applied, Run, run}
use Rattle.rules.specs.History.{granted_calls, grants}
use Rattle.rules.proofs.Decisions.{Granted, is_granted}

-- the book after granted calls
abbrev pub after : Book → List Call → Book
after b [] = b
after b (c ∷ cs) = after (effect b c) cs

-- each of the calls is granted in its turn
abbrev pub AllGranted : Book → List Call → Type 0
AllGranted b [] = Unit {0}
AllGranted b (c ∷ cs) = Granted b c × AllGranted (effect b c) cs

granted_step : (b : Book) (c : Call) → eqb (number b c) 0 ≡ true
    → applied b c ≡ record { reply = record { number = 0; first = detail b c; second = 0 }; book = effect b c }
unfolding applied
granted_step b c e = rw e

pub refused_step : (b : Book) (c : Call) → eqb (number b c) 0 ≡ false → applied b c ≡ record { reply = refusal b c (number b c); book = b }
unfolding applied
refused_step b c e = rw e

-- the granted calls of a run
abbrev pub history : Book → List Call → List Call
history b cs = granted_calls cs (run b cs).replies

pub record Follows (b : Book) (gs : List Call) (end : Book) : Type 0 where
  pub granted : AllGranted b gs
  pub book : end ≡ after b gs

-- a run's first step s, and the rest
abbrev FirstFollows : Book → Call → List Call → Step → Type 0
FirstFollows b c cs s = Follows b (cond (is_grant s.reply) (c ∷ history s.book cs) (history s.book cs)) (run s.book cs).book

pub run_follows : (b : Book) (cs : List Call) → Follows b (history b cs) (run b cs).book
unfolding run granted_calls
run_follows b [] = record { granted = tt; book = refl }
run_follows b (c ∷ cs) = go (eqb (number b c) 0) refl (λ b'. run_follows b' cs)
  where
    go : (t : Bool) → eqb (number b c) 0 ≡ t → ((b' : Book) → Follows b' (history b' cs) (run b' cs).book) → FirstFollows b c cs (applied b c)
    go true e rest =
        subst⁻¹ (FirstFollows b c cs) (granted_step b c e)
        (record { granted = (is_granted b c e, (rest (effect b c)).granted); book = (rest (effect b c)).book })
    go false e rest = subst⁻¹ (FirstFollows b c cs) (refused_step b c e) (unfold refusal in rw e (rest b))

-- with the refused calls struck out, every other call gets the same answer and the book at the end is the same
abbrev Struck : Book → List Call → Run → Type 0
Struck b gs r = run b gs ≡ record { replies = grants r.replies; book = r.book }

abbrev FirstStruck : Book → Call → List Call → Step → Type 0
FirstStruck b c cs s =
    Struck b (cond (is_grant s.reply) (c ∷ history s.book cs) (history s.book cs))
    (record { replies = s.reply ∷ (run s.book cs).replies; book = (run s.book cs).book })

pub struck : (b : Book) (cs : List Call) → run b (history b cs) ≡ record { replies = grants (run b cs).replies; book = (run b cs).book }
unfolding run granted_calls grants
struck b [] = refl
struck b (c ∷ cs) = go (eqb (number b c) 0) refl (λ b'. struck b' cs)
  where
    go : (t : Bool) → eqb (number b c) 0 ≡ t → ((b' : Book) → Struck b' (history b' cs) (run b' cs)) → FirstStruck b c cs (applied b c)
    go true e rest = subst⁻¹ (FirstStruck b c cs) (granted_step b c e) (rw (granted_step b c e) (rw (rest (effect b c))))
    go false e rest = subst⁻¹ (FirstStruck b c cs) (refused_step b c e) (unfold refusal in rw e (rest b))
