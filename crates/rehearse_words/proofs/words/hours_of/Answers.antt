-- `hours_of` meets its contract: one hour more.
-- Assumes nothing.
use Rattle.std.proofs.Common.{◌≡◌, ℕ, zero, suc, ◌+◌, ◌-◌, ◌<◌, Bool, true, false, not, List, [], ◌∷◌, ◌++◌, length, take, get_or, refl, sym, ap, ◌∙◌, arith, append-nil, length-take-le, if◌then◌else◌}
use Rattle.std.specs.List.{filter}
use Rattle.std.proofs.lemmas.List.Elements.{filter_more}
use Rattle.std.proofs.lemmas.List.Filters.{length-filter_both}
use Rattle.rules.specs.Basics.{bit}
use Rattle.rehearse_text.specs.Rows.{numbers_in}
use Rattle.rehearse_words.specs.Words.{is_marked}
use Rattle.rehearse_words.proofs.words.hours_of.Goals.{then-has_bit, else-has_bit}
use Rattle.rehearse_words.proofs.words.hours_of.Goals as goal

abbrev hours : List ℕ
hours = 1 ∷ 2 ∷ 3 ∷ 4 ∷ 5 ∷ []

hour_at : (k : ℕ) → k < 5 → get_or hours k 0 ≡ k + 1
hour_at zero h = refl
hour_at (suc zero) h = refl
hour_at (suc (suc zero)) h = refl
hour_at (suc (suc (suc zero))) h = refl
hour_at (suc (suc (suc (suc zero)))) h = refl
hour_at (suc (suc (suc (suc (suc k))))) h = absurd (omega arith)

-- this hour comes behind those before it, where its mark stands
one_more : (marks k : ℕ) (t : Bool) (before after : List ℕ) → k < 5 → bit marks k ≡ t → before ≡ filter (is_marked marks) (take k hours)
    → after ≡ before ++ (if t then (k + 1) ∷ [] else []) → after ≡ filter (is_marked marks) (take (k + 1) hours)
one_more marks k t before after h e old new =
    let place : k + 1 - 1 ≡ k = omega arith in
    let more = filter_more (is_marked marks) hours k 0 h in
    new ∙ ap (λ (l : List ℕ). l ++ (if t then (k + 1) ∷ [] else [])) old ∙ sym (rw (hour_at k h, place, e) at more)

-- there is room for all of them
few : (marks k : ℕ) → k < 5 → length (filter (is_marked marks) (take k hours)) < 10
few marks k h = omega (arith, length-filter_both (is_marked marks) (λ hour. not (is_marked marks hour)) (λ hour. refl) (take k hours), length-take-le k hours (omega arith))

pub loop-hour-preserved : goal.loop-hour-preserved
loop-hour-preserved c =
    let before = c.loop-hour.invariant in
    let room : length (numbers_in c.loop-hour.hours) < 10 = rw before (few c.args.marks c.loop-hour.hour c.loop-hour-test.true) in
    elim c.if-has_bit.branch [
      | then-has_bit w ↦
          one_more c.args.marks c.loop-hour.hour true _ _ c.loop-hour-test.true (cc) before
          (rw (w.hours-is, ← w.from.ensures) (w.add.ensures.added room))
      | else-has_bit w ↦
          one_more c.args.marks c.loop-hour.hour false _ _ c.loop-hour-test.true (cc) before (rw w.hours-is (sym (append-nil (numbers_in c.loop-hour.hours))))
    ]
