-- The library's decimal digits are those of the definition.
-- Assumes nothing.
use Rattle.std.proofs.Common.{◌≡◌, ℕ, ◌%◌, ◌<◌, ◌^◌, sym, refl, mod-eq_of_lt, arith, lt-ltb, le-ltb}
use Rattle.std.specs.Fmt.{decimal as digits}
use Rattle.std.proofs.lemmas.Fmt.{AppendsLastDigit, decimal_from_appends, length-decimal-le}
use Rattle.lines.specs.Text.{digits_of, decimal}

last_digit : AppendsLastDigit digits_of
unfolding digits_of
last_digit = record {
  one = λ k n l. let e : n % 10 ≡ n = mod-eq_of_lt l in rw (lt-ltb n 10 l, e) refl;
  more = λ k n l. rw (le-ltb n 10 l);
}

pub same_digits : (n : ℕ) → n < 2 ^ 64 → digits n ≡ decimal n
same_digits n l = sym (decimal_from_appends digits_of last_digit 20 n l (length-decimal-le 20 n (omega arith) (omega arith) l))
