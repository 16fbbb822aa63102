-- `marks::marks` meets its contract.
-- Assumes nothing.
use Rattle.std.proofs.Common.{rules, tests, ◌≡◌, ◌∙◌, ◌*◌, ◌%◌, ◌^◌, ℕ, List, [], ◌∷◌, Bool, true, false, cond, ltb, length, reverse, refl, arith}
use Rattle.std.specs.List.{fold, zip}
use Rattle.std.specs.Int.Bits.{bit_or}
use Rattle.std.proofs.lemmas.Iterator.{YieldsList-from_zip}
use Rattle.std.proofs.lemmas.Iterator.Adapters.{YieldsList-from_rev_slice}
use Rattle.std.proofs.lemmas.Iterator.Consumers.{fold_from_yields_List}
use Rattle.rules.specs.Basics.{map_of}
use Rattle.rules.specs.Book.{Pair}
use Rattle.rules.specs.Nominations.{side_total}
use Rattle.marks.specs.Totals.{totals_of, marks_of}
use Rattle.marks.proofs.marks.Goals as goal

-- what the code makes of the bits so far and an hour
abbrev turn : ℕ → ℕ × ℕ → ℕ
turn bits p = bit_or ((bits * 2 ^ 1) % 2 ^ 32) (cond (ltb p.0 p.1) 1 0)

-- the same, by the hour's bit
abbrev next : ℕ → Bool → ℕ
next bits t = bit_or ((bits * 2 ^ 1) % 2 ^ 32) (cond t 1 0)

bits_are : (a b c d e : Bool) → next (next (next (next (next 0 e) d) c) b) a ≡ map_of (a ∷ b ∷ c ∷ d ∷ e ∷ [])
unfolding map_of
bits_are true true true true true = refl
bits_are true true true true false = refl
bits_are true true true false true = refl
bits_are true true true false false = refl
bits_are true true false true true = refl
bits_are true true false true false = refl
bits_are true true false false true = refl
bits_are true true false false false = refl
bits_are true false true true true = refl
bits_are true false true true false = refl
bits_are true false true false true = refl
bits_are true false true false false = refl
bits_are true false false true true = refl
bits_are true false false true false = refl
bits_are true false false false true = refl
bits_are true false false false false = refl
bits_are false true true true true = refl
bits_are false true true true false = refl
bits_are false true true false true = refl
bits_are false true true false false = refl
bits_are false true false true true = refl
bits_are false true false true false = refl
bits_are false true false false true = refl
bits_are false true false false false = refl
bits_are false false true true true = refl
bits_are false false true true false = refl
bits_are false false true false true = refl
bits_are false false true false false = refl
bits_are false false false true true = refl
bits_are false false false true false = refl
bits_are false false false false true = refl
bits_are false false false false false = refl

in_order : (held totals : List ℕ) (r side : ℕ) (ps : List Pair) → length held ≡ 5 → totals ≡ totals_of r side ps → fold turn 0 (zip (reverse held) (reverse totals)) ≡ marks_of held r side ps
unfolding marks_of
in_order (a ∷ b ∷ c ∷ d ∷ e ∷ []) totals r side ps n t = rw t (bits_are (ltb a (side_total r side 0 ps)) (ltb b (side_total r side 1 ps)) (ltb c (side_total r side 2 ps)) (ltb d (side_total r side 3 ps)) (ltb e (side_total r side 4 ps)))
in_order [] totals r side ps n t = absurd (omega arith)
in_order (a ∷ []) totals r side ps n t = absurd (omega arith)
in_order (a ∷ b ∷ []) totals r side ps n t = absurd (omega arith)
in_order (a ∷ b ∷ c ∷ []) totals r side ps n t = absurd (omega arith)
in_order (a ∷ b ∷ c ∷ d ∷ []) totals r side ps n t = absurd (omega arith)
in_order (a ∷ b ∷ c ∷ d ∷ e ∷ f ∷ mw) totals r side ps n t = absurd (omega arith)

pub returns : goal.returns
returns c =
    fold_from_yields_List _ turn 0 _ c.fold.ensures.ran (YieldsList-from_zip (YieldsList-from_rev_slice c.args.held cc) (YieldsList-from_rev_slice c.side_totals-totals.result cc)) (λ a x b q k. search (rules, tests))
    ∙ in_order _ _ _ _ _ (search rules) c.side_totals-totals.ensures
