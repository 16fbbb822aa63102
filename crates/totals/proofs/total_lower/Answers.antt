-- `totals::total_lower` meets its contract: with one pair more, the sums are those of one pair more.
-- Assumes nothing.
use Rattle.std.proofs.Common.{◌≡◌, ℕ, ◌+◌, ◌*◌, ◌≤◌, ◌<◌, refl, ◌∙◌, List, [], length, take, get_or, arith}
use Rattle.rules.specs.Basics.{five}
use Rattle.totals.specs.Total.{Most, sum_in, sum_of, totals}
use Rattle.totals.proofs.Sums.{totals_next, most_none, most_plus}
use Rattle.totals.specs.declared.PairLower.{PairLower}
use Rattle.totals.proofs.total_lower.Goals as goal

-- what stands for an element where there is none
abbrev none : PairLower
none = record { lower = [] }

pub loop-pair-init : goal.loop-pair-init
unfolding sum_of
loop-pair-init c = (omega arith, refl, most_none)

turn : (l : List PairLower) (i : ℕ) (sums after : List ℕ) → i < length l → (i ≤ length l) × (sums ≡ totals (take i l)) × Most (i * 4294967295) sums
    → (after ≡ five (sum_in sums (get_or l i none).lower)) × Most 4294967295 (get_or l i none).lower
    → (i + 1 ≤ length l) × (after ≡ totals (take (i + 1) l)) × Most ((i + 1) * 4294967295) after
turn l i sums after h inv e =
    let next : after ≡ totals (take (i + 1) l) = e.0 ∙ rw inv.1 (totals_next l i none h) in
    (omega arith, next, most_plus i sums (get_or l i none).lower after inv.2 e)

pub loop-pair-preserved : goal.loop-pair-preserved
loop-pair-preserved c = turn c.args.list.now c.loop-pair.pair-index c.loop-pair.sums c.plus-next.result (omega arith) c.loop-pair.invariant c.plus-next.ensures
