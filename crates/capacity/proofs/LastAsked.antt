-- The search for the last MW above 0, from the end back: what it leaves off are the zeros at the end.
-- Assumes nothing.
use Rattle.std.proofs.Common.{◌≡◌, refl, sym, ap, subst, ◌∙◌, Bool, true, false, cond, not, ltb, Option, Some, None, List, [], ◌∷◌, reverse, length, get_or, take, ℕ, ◌+◌, ◌-◌, ◌≤◌, ◌<◌, Iter, Bor, arith}
use mathlib.Core.Bool.{true≢false}
use mathlib.Core.List.{reverse-append}
use borrow.Author.Tests.{ltb-true, ltb-false}
use lib.ListN.{get_or-eq_default, length-reverse}
use denote.Param.Members.{Mut}
use Rattle.std.specs.Fn.{Called}
use Rattle.std.specs.Iterator.{YieldsThen, FindsPosition, FindsPositionBack}
use Rattle.std.specs.List.{FoldsTo, position_or_len}
use Rattle.std.specs.Option.{MatchOption, IsSomeAnd, is_some}
use Rattle.std.specs.Slice.Iter.{iter_rest, iter_steps_back}
use Rattle.std.proofs.lemmas.List.{get_or-reverse}
use Rattle.std.proofs.lemmas.Bool.{not-true, not-false}
use Rattle.std.proofs.lemmas.Option.{cond_some}
use Rattle.std.proofs.lemmas.List.Sums.{prefix_len_passes, prefix_len_stops}
use Rattle.std.proofs.lemmas.Iterator.{YieldsList}
use Rattle.std.proofs.lemmas.Iterator.Consumers.{YieldsList-from_shown}
use Rattle.std.proofs.lemmas.Iterator.Search.{position_from_yields_List}
use Rattle.rules.specs.Searches.{to_last_asked}
use Rattle.rules.proofs.Searches.{first_asked}

-- how many MW there are up to the one that was found
abbrev pub up_to : Option ℕ → ℕ
up_to None = 0
up_to (Some last) = last + 1

abbrev above_zero : ℕ → Bool
above_zero mw = ltb 0 mw

-- how many zeros there are at the end
abbrev zeros : List ℕ → ℕ
zeros mws = position_or_len above_zero (reverse mws)

zero_from : (mw : ℕ) → not (above_zero mw) ≡ true → mw ≡ 0
zero_from mw e = omega (arith, ltb-false 0 mw (not-true (ltb 0 mw) e))

above_from : (mw : ℕ) → not (above_zero mw) ≡ false → 0 < mw
above_from mw e = ltb-true 0 mw (not-false (ltb 0 mw) e)

without_zeros : (mws : List ℕ) → to_last_asked mws ≡ take (length mws - zeros mws) mws
without_zeros mws = first_asked (length mws - zeros mws) mws none_after some_before
  where
    none_after : (k : ℕ) → length mws - zeros mws ≤ k → get_or mws k 0 ≡ 0
    none_after k h = go (ltb k (length mws)) refl
      where
        go : (t : Bool) → ltb k (length mws) ≡ t → get_or mws k 0 ≡ 0
        go true t =
            let l = ltb-true k (length mws) t in
            let place : length mws - 1 - (length mws - 1 - k) ≡ k = omega arith in
            let passes = prefix_len_passes (λ x. not (above_zero x)) (reverse mws) (length mws - 1 - k) 0 (omega arith) in
            zero_from (get_or mws k 0) (rw (get_or-reverse mws (length mws - 1 - k) 0 (omega arith), place) at passes)
        go false t = get_or-eq_default mws 0 (ltb-false k (length mws) t)

    some_before : 0 < length mws - zeros mws → 0 < get_or mws (length mws - zeros mws - 1) 0
    some_before h =
        let place : length mws - 1 - zeros mws ≡ length mws - zeros mws - 1 = omega arith in
        let long = length-reverse mws in
        let stops = prefix_len_stops (λ x. not (above_zero x)) (reverse mws) 0 (omega arith) in
        above_from (get_or mws (length mws - zeros mws - 1) 0) (rw (get_or-reverse mws (zeros mws) 0 (omega arith), place) at stops)

-- from the end back a slice yields its elements in reverse
back : {s : Iter ℕ} (mws : List ℕ) → iter_rest s ≡ mws → YieldsList iter_steps_back (λ y. y.now) s (reverse mws)
back {s} mws e = subst (λ k. YieldsList iter_steps_back (λ y. y.now) s (reverse k)) e
    (YieldsList-from_shown iter_steps_back (λ y. y.now) (λ u. reverse (iter_rest u)) (λ u t p. length-reverse _ ∙ p.0)
    (λ u x t p. ap reverse p ∙ reverse-append (iter_rest t) (x.now ∷ [])) s)

absent : (n p : ℕ) → None ≡ cond (ltb p n) (Some p) None → n ≤ p
absent n p e = go (ltb p n) refl
  where
    go : (t : Bool) → ltb p n ≡ t → n ≤ p
    go true t = absurd (true≢false (sym (ap is_some (rw t at e))))
    go false t = ltb-false p n t

there : (n p i : ℕ) → Some i ≡ cond (ltb p n) (Some p) None → p ≡ i
there n p i e = (cond_some (ltb p n) p i (sym e)).1

module _ {F : Type 0} (g : Mut F (Bor ℕ × Unit {0}) Bool) (s : Iter ℕ) (mws : List ℕ) (f : F) (u : Iter ℕ) (rest : iter_rest s ≡ mws)
    (calls : (x : Bor ℕ) (b : Bool) (q : F) → Called g f (x, tt) b q → (q ≡ f) × (b ≡ above_zero x.now)) where
  place : (r : Option ℕ) → FindsPosition iter_steps_back g s f r u → r ≡ cond (ltb (zeros mws) (length (reverse mws))) (Some (zeros mws)) None
  place r d = position_from_yields_List above_zero u f r d (back mws rest) calls

  place_is : (n : ℕ) (r : Option ℕ) (o : Option (Bor ℕ)) (xs : List (Bor ℕ)) (f' : F) → n ≡ length mws → YieldsThen iter_steps_back s xs o u
      → FoldsTo (λ p x q. Called g p (x, tt) false q) f xs f'
      → MatchOption o (r ≡ None) (λ x. IsSomeAnd r (λ i. i + 1 + length xs ≡ n) × ((h : F) × Called g f' (x, tt) true h))
      → up_to r ≡ length mws - zeros mws
  place_is n r None xs f' size y c e =
      let past = absent (length (reverse mws)) (zeros mws) (place None (xs, None, f', y, c, refl)) in
      let long = length-reverse mws in
      ap up_to e ∙ omega arith
  place_is n None (Some x) xs f' size y c e = absurd e.0
  place_is n (Some last) (Some x) xs f' size y c e =
      let at = there (length (reverse mws)) (zeros mws) (length xs) (place (Some (length xs)) (xs, Some x, f', y, c, (refl, e.1))) in
      omega (arith, e.0)

pub last_found : {F : Type 0} {g : Mut F (Bor ℕ × Unit {0}) Bool} {s : Iter ℕ} {f : F} {u : Iter ℕ} (mws : List ℕ) (n : ℕ) (r : Option ℕ) → FindsPositionBack iter_steps_back g s f n r u
    → iter_rest s ≡ mws → n ≡ length mws → ((x : Bor ℕ) (b : Bool) (q : F) → Called g f (x, tt) b q → (q ≡ f) × (b ≡ above_zero x.now)) → take (up_to r) mws ≡ to_last_asked mws
last_found {g = g} {s = s} {f = f} {u = u} mws n r d rest size calls =
    ap (λ (k : ℕ). take k mws) (place_is g s mws f u rest calls n r d.1 d.0 d.2 size d.3 d.4 d.5) ∙ sym (without_zeros mws)
