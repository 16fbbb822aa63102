-- Numbers stored in a list one after the other.
-- Assumes nothing.
use Prim.Native.Nat.{ℕ, suc, ◌+◌, ◌-◌, ◌≤◌}
use mathlib.Core.Path.{◌≡◌, sym, ◌∙◌}
use mathlib.Core.List.{List, [], ◌∷◌, ◌++◌, append_assoc}
use native.Mathlib.Nat.{add-zero}
use native.Mathlib.Omega.{arith}
use lib.ListN.{length, set, take, drop}
use lib.Seq.{sets, sets-eq, drop-drop}

pub sets-append : (b : List ℕ) (at : ℕ) (xs ys : List ℕ) → sets b at (xs ++ ys) ≡ sets (sets b at xs) (at + length xs) ys
sets-append b at [] ys = rw (add-zero at)
sets-append b at (x ∷ xs) ys = let e : at + length (x ∷ xs) ≡ suc at + length xs = omega arith in rw e (sets-append (set b at x) (suc at) xs ys)

-- a part that is copied over
pub copied : (b : List ℕ) (at : ℕ) (part : List ℕ) → at + length part ≤ length b
    → take at b ++ (part ++ drop (at + length part - at) (drop at b)) ≡ sets b at part
copied b at part h =
    let n : at + length part - at ≡ length part = omega arith in
    rw (n, drop-drop (length part) at b) (sym (sets-eq part b at h ∙ append_assoc (take at b) part (drop (at + length part) b)))
