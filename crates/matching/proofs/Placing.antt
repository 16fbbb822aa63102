-- A matching that nothing refuses: what it may rely on, and that its stores leave the book of the rules.
-- Assumes nothing.
use Rattle.std.specs.Prelude.{Ok}
use Prim.Native.Nat.{ℕ, ◌+◌}
use mathlib.Core.Path.{◌≡◌, ap, ◌∙◌}
use mathlib.Core.List.{List}
use native.Mathlib.Omega.{arith}
use borrow.Author.Tests.{eq-eqb}
use lib.ListN.{set, length-set}
use Rattle.rules.specs.Basics.{has}
use Rattle.rules.specs.Book.{Book, flag}
use Rattle.rules.specs.Calls.{Match}
use Rattle.rules.specs.Refusals.{order, refuses, unknown, number}
use Rattle.rules.specs.Effects.{is_timed, clock_after, directions_after, profiles_after, parties_after, offered_after, granted_after, rights_after, pairs_after, matched_after, effect}
use Rattle.rules.specs.Details.{detail}
use Rattle.rules.proofs.Bools.{or-true}
use Rattle.rules.proofs.Decisions.{is_granted, fails}
use Rattle.cells.specs.Layout.{MATCHED}
use Rattle.cells.specs.View.{book_of}
use Rattle.cells.specs.Updates.{with_matched, with_clock}
use Rattle.stores.proofs.Stores.{matched_set, clock_set}
use Rattle.answers.specs.Promises.{Answers}
use Rattle.answers.proofs.Laws.{granted}
use Rattle.matching.specs.Work.{match_of, Placed}
use Rattle.matching.specs.declared.MatchCall.{MatchCall}
use Rattle.matching.proofs.Tests.{KnownMatch, known_match}

pub match_there : (b : List ℕ) (t d s : ℕ) → number (book_of b) (Match t d s) ≡ 0 → KnownMatch d s
unfolding order has refuses unknown
match_there b t d s g = known_match b d s (fails (is_granted (book_of b) (Match t d s) (eq-eqb _ 0 g)) 6 tt)

effect_is : (b : Book) (t d s : ℕ) → with_clock (with_matched b (set b.matched (flag d s) 1)) t ≡ effect b (Match t d s)
unfolding effect is_timed clock_after directions_after profiles_after parties_after offered_after granted_after rights_after pairs_after matched_after
effect_is b t d s = rw (or-true b.started)

pub match_answers : (b b' : List ℕ) (call : MatchCall) (n : ℕ) → number (book_of b) (match_of call) ≡ 0 → Placed b call n b' → Answers b (match_of call) (Ok n) b'
unfolding detail
match_answers b b' call n g p =
    let t : ℕ = call.time in
    let d : ℕ = call.direction in
    let s : ℕ = call.session.0 in
    let u = p.cells.count in
    let k = match_there b t d s g in
    granted b b' (match_of call) n g p.count_is
    (ap book_of p.cells_are
    ∙ clock_set (set b (MATCHED + flag d s) 1) t (length-set b (MATCHED + flag d s) 1 ∙ u)
    ∙ ap (λ (x : Book). with_clock x t) (matched_set b (flag d s) 1 (omega arith) u)
    ∙ effect_is (book_of b) t d s)
