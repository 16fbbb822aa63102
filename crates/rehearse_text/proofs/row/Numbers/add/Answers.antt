-- `add` leaves zeros past the count.
-- Assumes nothing.
use Rattle.std.proofs.Common.{◌≡◌, ℕ, ◌+◌, ◌-◌, List, drop, replicate, slice_set, arith}
use Rattle.std.proofs.lemmas.List.{drop-drop, drop-set-lt, drop-replicate}
use Rattle.rehearse_text.proofs.row.Numbers.add.Goals as goal

one_less : (n value : ℕ) (values : List ℕ) → drop n values ≡ replicate (10 - n) 0 → drop (n + 1) (slice_set values n value) ≡ replicate (10 - (n + 1)) 0
one_less n value values zeros =
    let less : 10 - (n + 1) ≡ 10 - n - 1 = omega arith in
    rw (drop-set-lt (n + 1) values n value (omega arith), less, ← drop-drop 1 n values, zeros) (drop-replicate 1 (10 - n) 0)

pub invariant_of-self-clause-zeros : goal.invariant_of-self-clause-zeros
invariant_of-self-clause-zeros c = one_less _ _ _ c.args.self.now.zeros
