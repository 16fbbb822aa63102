-- The map of a kind's bits has the bit of a field exactly when it is among them.
-- Assumes nothing.
use Prim.Native.Nat.{ℕ, zero, suc, ◌+◌, ◌<◌, ◌≤◌}
use mathlib.Core.Path.{◌≡◌, refl, ap, ◌∙◌}
use mathlib.Core.Bool.{false}
use mathlib.Core.List.{List, []}
use native.Mathlib.Omega.{arith}
use native.Mathlib.Nat.{add-zero, zero-add}
use lib.ListN.{get_or, get_or-eq_default}
use Rattle.rules.specs.Basics.{bit, map_of, has}
use Rattle.rules.specs.Records.{kinds, kind_at}
use Rattle.rules.proofs.Bits.{bit_of_map}
use Rattle.fields.specs.Fields.{among_bits, kind_maps}

among_at : (n i j : ℕ) (ns : List ℕ) → j < n → get_or (among_bits n i ns) j false ≡ has (i + j) ns
unfolding among_bits
among_at zero i j ns l = absurd (omega arith)
among_at (suc n) i zero ns l = rw (add-zero i)
among_at (suc n) i (suc j) ns l = let e : i + suc j ≡ suc i + j = omega arith in rw e (among_at n (suc i) j ns (omega arith))

pub marked : (j : ℕ) (ns : List ℕ) → j < 15 → bit (map_of (among_bits 15 0 ns)) j ≡ has j ns
marked j ns l = bit_of_map (among_bits 15 0 ns) j ∙ among_at 15 0 j ns l ∙ ap (λ (i : ℕ). has i ns) (zero-add j)

pub no_kind_lem : (k : ℕ) → (0 < k → 6 ≤ k) → kind_maps (kind_at k) ≡ record { always = 0; mws = 0 }
unfolding among_bits map_of has kinds
no_kind_lem zero l = refl
no_kind_lem (suc n) l = rw (get_or-eq_default kinds (record { always = []; mws = [] }) {n = suc n} (l (omega arith)))
