-- A line is shown part by part, each up to a byte that is no printable ASCII.
-- Assumes nothing.
use Rattle.std.proofs.Common.{◌≡◌, ◌≢◌, ℕ, suc, ◌+◌, ◌-◌, ◌<◌, ◌≤◌, Bool, true, false, cond, Option, List, [], ◌∷◌, ◌++◌, length, take, drop, refl, sym, ap, ◌∙◌, arith, append-nil, Result, Ok, Err, OnOk}
use Rattle.std.specs.List.{prefix_len}
use Rattle.std.specs.Io.KnownBytes.{Appends}
use Rattle.std.proofs.KnownBytes.{Appends-trans}
use Rattle.std.proofs.lemmas.List.{take_all}
use Rattle.rehearse_words.specs.Texts.{is_printable, shown, unfit_line}
use lib.Chars.{codes}
use Rattle.rehearse_lines.specs.declared.unfit.Unfit.{Unfit}
use Rattle.rehearse_lines.specs.declared.unfit.Unfit.TheVariants.{TooLong, TooLarge, Expects, Unopened}
use Rattle.rehearse_lines.specs.Reasons.{unfit_text}

abbrev shown_other : List ℕ → List ℕ
shown_other [] = []
shown_other (b ∷ after) = 63 ∷ shown after

parts : (rest : List ℕ) → take (prefix_len is_printable rest) rest ++ shown_other (drop (prefix_len is_printable rest) rest) ≡ shown rest
parts [] = refl
parts (b ∷ bs) = go (is_printable b) (parts bs)
  where
    go : (t : Bool) → take (prefix_len is_printable bs) bs ++ shown_other (drop (prefix_len is_printable bs) bs) ≡ shown bs
        → take (cond t (1 + prefix_len is_printable bs) 0) (b ∷ bs) ++ shown_other (drop (cond t (1 + prefix_len is_printable bs) 0) (b ∷ bs))
        ≡ cond t b 63 ∷ shown bs
    go true e = let one : 1 + prefix_len is_printable bs ≡ suc (prefix_len is_printable bs) = omega arith in rw one (ap (λ (l : List ℕ). b ∷ l) e)
    go false e = refl

module _ (rest clear other : List ℕ) (n : ℕ) (count : n ≡ prefix_len is_printable rest) (front : clear ≡ take n rest) (back : other ≡ drop n rest) where
  shown_parts : clear ++ shown_other other ≡ shown rest
  shown_parts = rw (front, back, count) (parts rest)

  -- the last part
  pub shown_last : length other < 1 → clear ≡ shown rest
  shown_last few = go other few shown_parts
    where
      go : (o : List ℕ) → length o < 1 → clear ++ shown_other o ≡ shown rest → clear ≡ shown rest
      go [] h e = sym (append-nil clear) ∙ e
      go (b ∷ o) h e = absurd (omega arith)

  -- a part, the question mark, and what follows
  pub shown_on : (x y z end : Option (List ℕ)) → 1 ≤ length other → Appends x y clear → Appends y z (63 ∷ [])
      → Appends z end (shown (take (length other - 1) (drop 1 other))) → Appends x end (shown rest)
  shown_on x y z end some a b more = rw (← whole other some shown_parts) (Appends-trans x y end clear _ a (Appends-trans y z end (63 ∷ []) _ b more))
    where
      whole : (o : List ℕ) → 1 ≤ length o → clear ++ shown_other o ≡ shown rest → clear ++ (63 ∷ shown (take (length o - 1) (drop 1 o))) ≡ shown rest
      whole [] h e = absurd (omega arith)
      whole (b ∷ o) h e = let all : take (length (b ∷ o) - 1) o ≡ o = take_all _ _ (omega arith) in rw all e

pub on_ok : {T E P Q : Type 0} (r : Result T E) → (P → Q) → OnOk r P → OnOk r Q
on_ok (Ok x) f p = f p
on_ok (Err e) f p = p

-- ---- a reason behind its line

behind_line : (line : List ℕ) (unfit : Unfit) → unfit ≢ TooLong → shown line ++ (codes " -> " ++ (unfit_text unfit ++ (10 ∷ []))) ≡ unfit_line line unfit
behind_line line TooLong h = absurd (h refl)
behind_line line (TooLarge digits) h = refl
behind_line line (Expects wanted) h = refl
behind_line line Unopened h = refl

pub unfit_written : (a b c : Option (List ℕ)) (line : List ℕ) (unfit : Unfit) → unfit ≢ TooLong → Appends a b (shown line)
    → Appends b c (codes " -> " ++ (unfit_text unfit ++ (10 ∷ []))) → Appends a c (unfit_line line unfit)
unfit_written a b c line unfit h p q = rw (behind_line line unfit h) at (Appends-trans a b c (shown line) _ p q)
