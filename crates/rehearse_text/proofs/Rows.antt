-- Numbers in a row, printed one after the other.
-- Assumes nothing.
use Rattle.std.proofs.Common.{◌≡◌, ℕ, zero, suc, ◌+◌, ◌-◌, ◌<◌, ◌≤◌, List, [], ◌∷◌, ◌++◌, length, take, drop, get_or, refl, ap, sym, ◌∙◌, arith, append_assoc, append-nil, length-take-le, length-drop}
use Rattle.std.proofs.lemmas.List.{take_all}
use Rattle.std.specs.Fmt.{decimal}
use Rattle.rehearse_text.specs.Rows.{row_text, row_after}

pub row_of_first : (xs s : List ℕ) → s ≡ xs → 1 ≤ length s → decimal (get_or s 0 0) ≡ row_text (take 1 xs)
unfolding row_after
row_of_first [] s e h = absurd (omega (arith, ap length e))
row_of_first (x ∷ xs) s e h = rw e (sym (append-nil (decimal x)))

after_one_more : (ns : List ℕ) (k : ℕ) → k < length ns → row_after (take (suc k) ns) ≡ row_after (take k ns) ++ (32 ∷ decimal (get_or ns k 0))
unfolding row_after
after_one_more [] k h = absurd (omega arith)
after_one_more (n ∷ ns) zero h = append-nil (32 ∷ decimal n)
after_one_more (n ∷ ns) (suc k) h =
    rw (after_one_more ns k (omega arith)) (sym (append_assoc (32 ∷ decimal n) (row_after (take k ns)) (32 ∷ decimal (get_or ns k 0))))

one_more : (xs rest : List ℕ) (k : ℕ) → rest ≡ take (length xs - 1) (drop 1 xs) → k < length rest
    → row_text (take (suc k) xs) ++ (32 ∷ decimal (get_or rest k 0)) ≡ row_text (take (suc (k + 1)) xs)
one_more [] rest k e h = absurd (omega (arith, ap length e))
one_more (x ∷ ns) rest k e h =
    let whole : take (length (x ∷ ns) - 1) ns ≡ ns = take_all _ _ (omega arith) in
    let same : rest ≡ ns = e ∙ whole in
    let few : k < length ns = rw same at h in
    let next : k + 1 ≡ suc k = omega arith in
    rw (same, next, after_one_more ns k few) (append_assoc (decimal x) (row_after (take k ns)) (32 ∷ decimal (get_or ns k 0)))

pub row_of_one_more : (xs s : List ℕ) (k : ℕ) → s ≡ xs → k < length (take (length s - 1) (drop 1 s))
    → row_text (take (suc k) xs) ++ (32 ∷ decimal (get_or (take (length s - 1) (drop 1 s)) k 0)) ≡ row_text (take (suc (k + 1)) xs)
row_of_one_more xs s k e h = rw e (one_more xs _ k refl (rw e at h))

pub row_of_all : (xs s : List ℕ) (k : ℕ) → s ≡ xs → length (take (length s - 1) (drop 1 s)) ≤ k → row_text (take (suc k) xs) ≡ row_text xs
row_of_all xs s k e h = ap row_text (take_all (suc k) xs (omega (arith, length-take-le (length s - 1) (drop 1 s) (simp length-drop (omega arith)), ap length e)))
