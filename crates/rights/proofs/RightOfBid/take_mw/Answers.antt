-- `rights::RightOfBid::take_mw` meets its contract.
-- Assumes nothing.
use mathlib.Core.Path.{sym, ◌∙◌}
use native.Mathlib.Omega.{arith}
use Rattle.rights.proofs.Rights.{has_room, opened_books, below, raised_books}
use borrow.Author.Rules.{rules}
use Rattle.rights.proofs.RightOfBid.take_mw.Goals as goal

pub open_right-requires : goal.open_right-requires
open_right-requires c = has_room c.requires (sym c.by_entry.ensures ∙ c.in_default.is)

pub returns-in_default : goal.returns-in_default
returns-in_default c = let n = sym c.by_entry.ensures ∙ c.in_default.is in
    opened_books _ _ _ n _ _ (has_room c.requires n) c.open_right.ensures

pub row-requires : goal.row-requires
row-requires c = let l = below _ _ _ (sym c.by_entry.ensures ∙ c.in-Some.is) in
    omega arith

pub add_five-requires : goal.add_five-requires
add_five-requires c = let l = below _ _ _ (sym c.by_entry.ensures ∙ c.in-Some.is) in
    omega arith

pub returns : goal.returns
returns c = let begins = c.row.ensures.begins in
    raised_books _ _ _ _ (sym c.by_entry.ensures ∙ c.in-Some.is) c.told-book (search rules) c.add_five.ensures (omega arith)
