-- The code in a party's row: compared with a new one, and copied from it.
-- Assumes nothing.
use Rattle.std.proofs.Common.{ℕ, zero, suc, ◌+◌, ◌≡◌, ◌≤◌, ◌<◌, Bool, true, ◌&&◌, eqb, List, [], ◌∷◌, ◌++◌, length, get_or, drop, refl, sym, ap, ◌∙◌, add-one, zero-add, arith}
use Rattle.std.proofs.Math.Seq.{drop-cons, set-append_seam}
use Rattle.std.proofs.Math.ListN.{set, drop_of_length-le}
use Rattle.std.proofs.lemmas.Grind.{same_number_lists}
use Rattle.std.specs.List.{list_all, zip}
use Rattle.std.specs.Array.{IsMapOf}
use denote.Param.Members.{Mut, Called}
use Rattle.rules.specs.Basics.{same}
use Rattle.cells.specs.Loops.{rows}
use Rattle.cells.specs.View.{cell_from, part, party_read}
use Rattle.parties.specs.Work.{same_code}

-- ---- compared

abbrev equal : ℕ × ℕ → Bool
equal p = eqb p.0 p.1

front : (l : List ℕ) (k : ℕ) → k < length l → drop k l ≡ get_or l k 0 ∷ drop (k + 1) l
front l k h = drop-cons l k 0 h ∙ ap (λ (j : ℕ). get_or l k 0 ∷ drop j l) (sym (add-one k))

all_passed : (l : List ℕ) → list_all equal (zip l []) ≡ true
all_passed [] = refl
all_passed (x ∷ xs) = refl

module _ (row code : List ℕ) where
  same_from : (n k : ℕ) → length code ≡ k + n → k + n ≤ length row → list_all equal (zip (drop k row) (drop k code)) ≡ same (rows (cell_from row 0) n k) (drop k code)
  unfolding rows same cell_from
  same_from zero k size room = let past : length code ≤ k = omega arith in
      rw (drop_of_length-le code {i = k} past) (all_passed (drop k row))
  same_from (suc n) k size room =
      rw (front code k (omega arith), front row k (omega arith), zero-add k) (ap (λ (x : Bool). eqb (get_or row k 0) (get_or code k 0) && x) (same_from n (k + 1) (omega arith) (omega arith)))

  pub same_code_is : length code ≡ 16 → length row ≡ 17 → list_all equal (zip row code) ≡ same_code code (party_read row)
  unfolding part
  same_code_is size room = same_from 16 0 size (omega arith)

-- ---- copied

-- an array of what a closure gives of each number, where it gives the number itself
pub mapped_same : {F : Type 0} {g : Mut F (ℕ × Unit {0}) ℕ} {f : F} {xs ys : List ℕ} {n : ℕ} → IsMapOf g f xs ys n → length xs ≡ n
    → ((x y : ℕ) (p q : F) → Called g p (x, tt) y q → y ≡ x) → ys ≡ xs
mapped_same {F} {g} {f} {xs} {ys} {n} m size one =
    same_number_lists ys xs (m.long ∙ sym size) (λ k l. let k_in : k < n = omega (arith, m.long) in let called = m.at k 0 0 k_in in one _ _ called.0 called.1 called.2)

-- the access map behind the code
pub at_the_end : (code : List ℕ) (access : ℕ) → length code ≡ 16 → set (code ++ (0 ∷ [])) 16 access ≡ code ++ (access ∷ [])
at_the_end code access size = rw (← size) (set-append_seam code 0 [] access)
