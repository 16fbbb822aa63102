-- `pairs::take_pair` meets its contract.
-- Assumes nothing.
use mathlib.Core.Path.{sym, ◌∙◌}
use Rattle.pairs.proofs.Pairs.{full_passed, room_left, opened_there, found_there}
use Rattle.pairs.proofs.take_pair.Goals as goal

pub open_pair-requires : goal.open_pair-requires
open_pair-requires c = room_left _ _ (rw c.in_default.is at c.requires.entry_is)

pub returns-in_default : goal.returns-in_default
returns-in_default c = let entry = rw c.in_default.is at c.requires.entry_is in
    opened_there _ _ (sym (full_passed _ _ entry).1) _ _ (room_left _ _ entry) c.open_pair.ensures

pub returns : goal.returns
returns c = found_there _ _ _ c.told-book (sym (full_passed _ _ c.requires.entry_is).1 ∙ c.in-Some.is)
