-- `confirmed::confirmed_of` meets its contract.
-- Assumes nothing.
use Rattle.std.proofs.Common.{Some, sym, ◌∙◌, subst, ap}
use Rattle.std.proofs.lemmas.Result.{err_from_is_err_and}
use Rattle.cells.specs.View.{book_of}
use Rattle.answers.specs.Entries.{FindsRight}
use Rattle.answers.specs.declared.RightRead.{RightRead}
use Rattle.answers.proofs.Laws.{refused_with}
use Rattle.pairs.proofs.Searches.{Standing, standing_at, standing_none}
use Rattle.confirmed.proofs.Reading.{no_right, no_pair, not_matched, granted_read, row_there, hours_are}
use Rattle.confirmed.proofs.confirmed_of.Goals.{In_ok-held, In_ok-number}
use Rattle.confirmed.proofs.confirmed_of.Goals as goal

-- the right that was found
known : (c : In_ok-held) → let b = book_of c.args.book.now in FindsRight b c.args.right (Some c.in_ok-held.held)
known c = subst (FindsRight (book_of c.args.book.now) c.args.right) c.in_ok-held.ensures.ok_part c.right_in.ensures

-- the pair that was found
there : (c : In_ok-number) → Standing c.args.book.now (record { right = c.args.right; out = c.args.out; into = c.args.into }) c.in_ok-number.number
there c = standing_at _ _ _ (sym c.standing_pair.ensures ∙ c.in_ok-number.ensures.ok_part)

pub returns-in_err-held : goal.returns-in_err-held
returns-in_err-held c =
    let p = err_from_is_err_and c.from_residual.result c.from_residual.ensures.1 in
    let none = c.in_err-held.ensures in
    record { reply = rw (p.1, p.2, refused_with _ _ _ none.value none.ok_part) (no_right (book_of c.args.book.now) _ _ _ (subst (FindsRight (book_of c.args.book.now) c.args.right) none.ok_part c.right_in.ensures)) }

pub returns-in_err-number : goal.returns-in_err-number
returns-in_err-number c =
    let p = err_from_is_err_and c.from_residual-in_err-number.result c.from_residual-in_err-number.ensures.1 in
    let none = c.in_err-number.ensures in
    let found = known (goal.at.returns-in_err-number c).In_ok-held in
    record { reply = rw (p.1, p.2, refused_with _ _ _ none.value none.ok_part) (no_pair (book_of c.args.book.now) _ _ _ found.0 (standing_none _ _ (sym c.standing_pair.ensures ∙ none.ok_part)).none) }

pub returns-then-not-is_matched : goal.returns-then-not-is_matched
returns-then-not-is_matched c =
    let found = known (goal.at.returns-then-not-is_matched c).In_ok-held in
    let pair = there (goal.at.returns-then-not-is_matched c).In_ok-number in
    record { reply = not_matched (book_of c.args.book.now) _ _ _ found.0 pair.there (rw found.1 at (sym c.if-not-is_matched.ensures)) }

pub bounds-pairs-number : goal.bounds-pairs-number
bounds-pairs-number c = row_there _ _ _ c.pairs.ensures (there (goal.at.bounds-pairs-number c).In_ok-number).row

pub returns : goal.returns
returns c =
    let found = known (goal.at.returns c).In_ok-held in
    let pair = there (goal.at.returns c).In_ok-number in
    record {
      reply = granted_read (book_of c.args.book.now) _ _ _ found.0 pair.there (rw found.1 at (sym c.if-not-is_matched.ensures)) _
          (c.confirmed_five.ensures ∙ hours_are _ _ _ c.pairs.ensures pair.row _ _ _ _ _ _ (ap (λ (x : RightRead). x.mw) found.1) c.sums_of-totals.ensures c.of_row.ensures pair.pair_is);
    }
