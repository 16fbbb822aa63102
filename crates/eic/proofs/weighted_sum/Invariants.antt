-- `eic::weighted_sum` meets its contract. The loop's invariant: the weighted sum is what is summed and what is left, and the bytes seen so
-- far are characters.
-- Assumes nothing.
use Rattle.std.proofs.Common.{◌≡◌, ◌+◌, ◌-◌, ◌*◌, ◌≤◌, drop}
use Rattle.rules.specs.Codes.{all_chars, weighted}
use Rattle.eic.proofs.weighted_sum.Given as goal

abbrev pub invariant-loop-place : goal.invariant-loop-place
invariant-loop-place l =
    record {
      small : l.sum ≤ 576 * l.place;
      summed : weighted 16 l.bytes ≡ l.sum + weighted (16 - l.place) (drop l.place l.bytes);
      characters : all_chars l.bytes ≡ all_chars (drop l.place l.bytes);
    }
