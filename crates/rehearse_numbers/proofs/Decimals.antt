-- Digits are taken one by one, and a number that is too large for every field stays so.
-- Assumes nothing.
use Rattle.std.proofs.Common.{ℕ, suc, ◌+◌, ◌-◌, ◌*◌, ◌≤◌, ◌≡◌, ◌∙◌, sym, refl, Bool, true, false, cond, List, [], ◌∷◌, take, drop, arith}
use Rattle.std.specs.Char.{is_ascii_digit}
use Rattle.std.specs.List.{fold, prefix_len}
use Rattle.rehearse_numbers.specs.Decimal.{decimal_of, digits_in, capped, Read}
use Rattle.std.proofs.lemmas.Grind.{common_steps}

-- more digits make no number smaller
grows : (v : ℕ) (bs : List ℕ) → v ≤ decimal_of v bs
unfolding decimal_of
grows v [] = omega arith
grows v (b ∷ bs) = grind (arith, common_steps, grows (v * 10 + (b - 48)) bs)

-- the cap makes no difference to what is read after it
stays : (v : ℕ) (bs : List ℕ) → capped (decimal_of v bs) ≡ capped (decimal_of (capped v) bs)
stays v bs = grind (arith, common_steps, grows v bs, grows 4294967296 bs)

same_cap : (n : ℕ) → capped n ≡ capped (capped n)
same_cap n = grind arith

-- the digits at the front, taken one after the other
folded : (v : ℕ) (bs : List ℕ) → v ≡ capped v
    → fold (λ n b. capped (n * 10 + (b - 48))) v (take (prefix_len is_ascii_digit bs) bs) ≡ capped (decimal_of v bs)
unfolding decimal_of
folded v [] h = h
folded v (b ∷ bs) h =
    go (is_ascii_digit b)
    (folded (capped (v * 10 + (b - 48))) bs (same_cap (v * 10 + (b - 48))) ∙ sym (stays (v * 10 + (b - 48)) bs))
  where
    go : (t : Bool)
        → fold (λ n c. capped (n * 10 + (c - 48))) (capped (v * 10 + (b - 48))) (take (prefix_len is_ascii_digit bs) bs)
        ≡ capped (decimal_of (v * 10 + (b - 48)) bs)
        → fold (λ n c. capped (n * 10 + (c - 48))) v (take (cond t (1 + prefix_len is_ascii_digit bs) 0) (b ∷ bs))
        ≡ capped (cond t (decimal_of (v * 10 + (b - 48)) bs) v)
    go true e =
        let one : 1 + prefix_len is_ascii_digit bs ≡ suc (prefix_len is_ascii_digit bs) = omega arith in rw one e
    go false e = h

-- the number that the digits at the front were taken for
pub read_front : (text digits rest : List ℕ) (value count : ℕ) → count ≡ digits_in text → digits ≡ take count text → rest ≡ drop count text
    → value ≡ fold (λ n b. capped (n * 10 + (b - 48))) 0 digits → Read text value rest
read_front text digits rest value count c d r v =
    let e = folded 0 text refl in
    record {
      number = cc;
      past = cc;
    }
