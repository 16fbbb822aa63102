-- What a loop of stores leaves as it was, and what it changes once.
use mathlib.Core.Path.{◌≡◌, refl, sym, ap, subst, ◌∙◌}
use mathlib.Core.Logic.{◌≢◌}
use Prim.Native.Nat.{ℕ, zero, suc, ◌+◌, ◌≤◌, ◌<◌}
use native.Mathlib.Omega.{arith}
use native.Mathlib.Decide.{ℕ_discrete}
use Rattle.cells.specs.Loops.{repeated}

module _ {A B : Type 0} (g : A → B) (f : ℕ → A → A) where
  -- no turn changes what g sees
  pub repeated_same : (n k : ℕ) (a : A) → ((i : ℕ) → k ≤ i → i < k + n → (x : A) → g (f i x) ≡ g x) → g (repeated f n k a) ≡ g a
  unfolding repeated
  repeated_same zero k a h = refl
  repeated_same (suc n) k a h =
      repeated_same n (k + 1) (f k a) (λ i l u x. h i (omega arith) (omega arith) x) ∙ h k (omega arith) (omega arith) a

  -- turn m changes it by F, and no other turn does; P holds along the way
  module _ (P : A → Type 0) (F : B → B) (m : ℕ) where
    pub repeated_once : (n k : ℕ) (a : A) → ((i : ℕ) (x : A) → P x → P (f i x)) → ((x : A) → P x → g (f m x) ≡ F (g x))
        → ((i : ℕ) → k ≤ i → i < k + n → i ≢ m → (x : A) → g (f i x) ≡ g x) → P a → k ≤ m → m < k + n → g (repeated f n k a) ≡ F (g a)
    unfolding repeated
    repeated_once zero k a keep turn other p l u = absurd (omega arith)
    repeated_once (suc n) k a keep turn other p l u = go (ℕ_discrete k m) (repeated_once n (k + 1) (f k a) keep turn (λ i b c. other i (omega arith) (omega arith)) (keep k a p))
      where
        go : Dec (k ≡ m) → (k + 1 ≤ m → m < k + 1 + n → g (repeated f n (k + 1) (f k a)) ≡ F (g (f k a))) → g (repeated f n (k + 1) (f k a)) ≡ F (g a)
        go (yes e) ih =
            repeated_same n (k + 1) (f k a) (λ i l' u' x. other i (omega arith) (omega arith) (λ q. omega arith) x)
            ∙ subst (λ (j : ℕ). g (f j a) ≡ F (g a)) (sym e) (turn a p)
        go (no d) ih = ih (omega arith) (omega arith) ∙ ap F (other k (omega arith) (omega arith) d a)

-- what every turn keeps
pub repeated_keeps : {A : Type 0} (P : A → Type 0) (f : ℕ → A → A) (n k : ℕ) (a : A) → ((i : ℕ) (x : A) → P x → P (f i x)) → P a → P (repeated f n k a)
unfolding repeated
repeated_keeps P f zero k a keep p = p
repeated_keeps P f (suc n) k a keep p = repeated_keeps P f n (k + 1) (f k a) keep (keep k a p)
