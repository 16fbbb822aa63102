-- Rows of the same numbers are the same row, equal field by field, and no others are.
-- Assumes nothing.
use Rattle.std.proofs.Common.{◌≡◌, ℕ, ◌≤◌, ◌-◌, ◌==◌, ◌&&◌, ◌++◌, length, take, drop, replicate, ap, sym, ◌∙◌, take-append-drop, length-take-le}
use Rattle.std.proofs.Props.{props}
use Rattle.std.proofs.lemmas.Bool.Decides.{Decides-and, Decides-eqb, Decides-like, same_from_decides}
use Rattle.std.proofs.lemmas.Slice.Eq.{bytes_eq-Decides}
use Rattle.std.specs.Str.{bytes_eq}
use mathlib.Core.HLevel.{is_prop→PathP}
use Rattle.rehearse_text.specs.declared.row.Numbers.{Numbers}
use Rattle.rehearse_text.specs.Rows.{numbers_in}

same_fields : (a b : Numbers) → numbers_in a ≡ numbers_in b → (a.values ≡ b.values) × (a.count ≡ b.count)
same_fields a b same =
    let counts : a.count ≡ b.count = sym (length-take-le a.count a.values a.fits) ∙ ap length same ∙ length-take-le b.count b.values b.fits in
    let zeros : drop a.count a.values ≡ drop b.count b.values = a.zeros ∙ ap (λ (n : ℕ). replicate (10 - n) 0) counts ∙ sym b.zeros in
    let whole : take a.count a.values ++ drop a.count a.values ≡ a.values = take-append-drop a.count a.values in
    (sym (rw (same, zeros) at whole) ∙ take-append-drop b.count b.values, counts)

pub same_numbers : (a b : Numbers) → numbers_in a ≡ numbers_in b → a ≡ b
same_numbers a b same =
    let fields = same_fields a b same in
    λ i. record {
      values = fields.0 i;
      count = fields.1 i;
      fits = is_prop→PathP (λ j. fields.1 j ≤ length (fields.0 j)) (λ j. hlevel props) a.fits b.fits i;
      zeros = is_prop→PathP (λ j. drop (fields.1 j) (fields.0 j) ≡ replicate (10 - fields.1 j) 0) (λ j. hlevel props) a.zeros b.zeros i;
    }

pub same_rows : (a b : Numbers) → (bytes_eq a.values b.values && (a.count == b.count)) ≡ bytes_eq (numbers_in a) (numbers_in b)
same_rows a b =
    same_from_decides _ _
    (Decides-like _ (λ same. ap (take a.count) same.0 ∙ ap (λ (n : ℕ). take n b.values) same.1)
    (λ same. let row = same_numbers a b same in (λ i. (row i).values, λ i. (row i).count))
    (Decides-and _ _ (bytes_eq-Decides a.values b.values) (Decides-eqb a.count b.count)))
    (bytes_eq-Decides (numbers_in a) (numbers_in b))
