-- `confirmed::confirmed` meets its contract.
-- Assumes nothing.
use native.Mathlib.Omega.{arith}
use Rattle.confirmed.proofs.Hours.{product_fits, cut_fits, cut, uncut}
use Rattle.confirmed.proofs.confirmed.Goals as goal

pub overflow_mul-result : goal.overflow_mul-result
overflow_mul-result c = record { fits = product_fits _ _ (omega arith) (omega arith) }

pub overflow_cast-result-then-held-total-2 : goal.overflow_cast-result-then-held-total-2
overflow_cast-result-then-held-total-2 c = record { fits = cut_fits _ _ _ c.if-held-total.true (omega arith) }

pub returns-then-held-total : goal.returns-then-held-total
returns-then-held-total c = cut _ _ _ c.if-held-total.true

pub returns : goal.returns
returns c = uncut _ _ _ c.if-held-total.false
