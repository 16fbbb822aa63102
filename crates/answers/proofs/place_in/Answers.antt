-- `answers::place_in` meets its contract.
-- Assumes nothing.
use mathlib.Core.Path.{◌≡◌}
use mathlib.Core.Bool.{false, ◌||◌}
use native.Mathlib.Omega.{arith}
use Rattle.rules.specs.Refusals.{hour_unknown}
use Rattle.cells.specs.View.{book_of}
use Rattle.cells.proofs.Views.{known, slot, known_profile}
use Rattle.answers.specs.Capacities.{capacity_unknown}
use Rattle.answers.proofs.place_in.Goals.{in-Direction, in-Profile}
use Rattle.answers.proofs.place_in.Goals as goal

pub overflow_add-row : goal.overflow_add-row
overflow_add-row c =
    let there : (let b = book_of c.args.book.now in (capacity_unknown b c.args.capacity || hour_unknown b c.args.hour.0) ≡ false) =
    (rw (← c.capacity_unknown.ensures, c.if-capacity_unknown.false, ← c.hour_unknown.ensures) c.if-hour_unknown.false) in
    let k = known_profile c.args.book.now c.in-Profile.profile c.args.hour.0 (rw c.in-Profile.is at there) in
    record { fits = omega arith }

pub invariant_of-result : goal.invariant_of-result
invariant_of-result c =
    let there : (let b = book_of c.args.book.now in (capacity_unknown b c.args.capacity || hour_unknown b c.args.hour.0) ≡ false) =
    (rw (← c.capacity_unknown.ensures, c.if-capacity_unknown.false, ← c.hour_unknown.ensures) c.if-hour_unknown.false) in
    elim c.match-capacity.branch [
      | in-Direction w ↦ record { in_tables = rw w.row-is (slot (known c.args.book.now w.in-Direction.direction c.args.hour.0 (rw w.in-Direction.is at there))) }
      | in-Profile w ↦ record { in_tables = rw w.row-is (known_profile c.args.book.now w.in-Profile.profile c.args.hour.0 (rw w.in-Profile.is at there)).row }
    ]
