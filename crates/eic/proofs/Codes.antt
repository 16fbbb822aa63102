-- The rules of party codes, character by character: what a loop over bytes has yet to see, and a code as fifteen bytes and its last.
-- Assumes nothing.
use Rattle.std.proofs.Common.{◌≡◌, ℕ, ◌+◌, ◌-◌, ◌*◌, ◌%◌, ◌<◌, ◌≤◌, Bool, true, false, ◌&&◌, not, List, [], ◌∷◌, ◌++◌, eqb, ltb, length, get_or, take, drop, sym, ◌∙◌, ap, refl, arith}
use borrow.Author.Tests.{lt-ltb}
use Rattle.std.proofs.lemmas.List.{at_drop_more, drop_more, take-append-drop}
use Rattle.rules.specs.Codes.{char_value, all_chars, weighted, is_code}
use lib.ListN.{drop_of_length-le}

-- ---- from byte number k on

characters_next : (bytes : List ℕ) (k : ℕ) → k < length bytes → all_chars (drop k bytes) ≡ (ltb (char_value (get_or bytes k 0)) 37 && all_chars (drop (k + 1) bytes))
unfolding all_chars
characters_next bytes k h = at_drop_more all_chars bytes k 0 h

-- all are characters where those after a character are
pub character_there : (bytes : List ℕ) (k : ℕ) → k < length bytes → char_value (get_or bytes k 0) < 37 → all_chars (drop k bytes) ≡ all_chars (drop (k + 1) bytes)
character_there bytes k h small = characters_next bytes k h ∙ rw (lt-ltb (char_value (get_or bytes k 0)) 37)

-- and where there is a byte that is none, never
pub no_character : (bytes : List ℕ) (k : ℕ) → k < length bytes → char_value (get_or bytes k 0) ≡ 37 → all_chars (drop k bytes) ≡ false
no_character bytes k h e = characters_next bytes k h ∙ rw e

pub weighted_next : (bytes : List ℕ) (k : ℕ) → k < length bytes
    → weighted (16 - k) (drop k bytes) ≡ (16 - k) * char_value (get_or bytes k 0) + weighted (16 - (k + 1)) (drop (k + 1) bytes)
unfolding weighted
weighted_next bytes k h = let less : 16 - k - 1 ≡ 16 - (k + 1) = omega arith in rw (← less) (at_drop_more (weighted (16 - k)) bytes k 0 h)

-- nothing is left past the end
pub characters_done : (bytes : List ℕ) (k : ℕ) → length bytes ≤ k → all_chars (drop k bytes) ≡ true
unfolding all_chars
characters_done bytes k h = rw (drop_of_length-le bytes h)

pub weighted_done : (bytes : List ℕ) (w k : ℕ) → length bytes ≤ k → weighted w (drop k bytes) ≡ 0
unfolding weighted
weighted_done bytes w k h = rw (drop_of_length-le bytes h)

-- a turn of the loop, and its end
pub ruleset turns = (character_there, no_character, weighted_next, characters_done, weighted_done)

-- ---- a code

and_assoc : (a b c : Bool) → ((a && b) && c) ≡ (a && (b && c))
and_assoc true b c = refl
and_assoc false b c = refl

characters-append : (xs ys : List ℕ) → all_chars (xs ++ ys) ≡ (all_chars xs && all_chars ys)
unfolding all_chars
characters-append [] ys = refl
characters-append (x ∷ xs) ys = rw (characters-append xs ys) (sym (and_assoc (ltb (char_value x) 37) (all_chars xs) (all_chars ys)))

-- sixteen characters are fifteen and a last
pub characters_of_code : (code : List ℕ) → length code ≡ 16 → all_chars code ≡ (all_chars (take 15 code) && ltb (char_value (get_or code 15 0)) 37)
unfolding all_chars
characters_of_code code e =
    let inside : 15 < length code = omega arith in
    let done : length code ≤ 16 = omega arith in
    let last : drop 15 code ≡ get_or code 15 0 ∷ [] = drop_more code 15 0 inside ∙ rw (drop_of_length-le code done) in
    ap all_chars (sym (take-append-drop 15 code)) ∙ characters-append (take 15 code) (drop 15 code)
    ∙ rw last (and_true (ltb (char_value (get_or code 15 0)) 37))
  where
    and_true : (b : Bool) → (all_chars (take 15 code) && (b && true)) ≡ (all_chars (take 15 code) && b)
    and_true true = refl
    and_true false = refl

-- a code has no byte that is none
pub no_code : (code : List ℕ) → length code ≡ 16 → all_chars code ≡ false → false ≡ is_code code
unfolding is_code
no_code code e none = rw (e, none)

-- what is left to test of sixteen characters, by the last one's value and the weighted sum
pub code_left : (code : List ℕ) (last sum : ℕ) → length code ≡ 16 → (all_chars (take 15 code) ≡ true) × (sum ≡ weighted 16 (take 15 code))
    → (last ≡ char_value (get_or code 15 0)) × (last < 37)
    → (eqb (get_or code 2 0) 88 && eqb last (36 - (sum - 1) % 37) && not (eqb last 36)) ≡ is_code code
unfolding is_code
code_left code last sum e (characters, summed) (value, small) =
    let all : all_chars code ≡ true = characters_of_code code e ∙ rw (characters, ← value, lt-ltb last 37) in
    rw (e, all, ← summed, ← value)
