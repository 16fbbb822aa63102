-- What the tests of the read found, and the reply of the rules: 6 before 12 before the confirmed MW.
-- Assumes nothing.
use Rattle.std.proofs.Common.{◌≡◌, ℕ, ◌<◌, true, false, List, [], Ok, Err, length, get_or, refl, ◌∙◌}
use Rattle.std.proofs.lemmas.List.{get_or_default}
use Rattle.rules.specs.Basics.{five}
use Rattle.rules.specs.Book.{Book, right, pair_limit}
use Rattle.rules.specs.Nominations.{pair_taken, pair_of, empty_pair, confirmed_at}
use Rattle.rules.specs.Refusals.{order, first_of, right_unknown, is_matched}
use Rattle.rules.specs.Reads.{read_confirmed, confirmed_read_refuses}
use Rattle.rules.specs.declared.Refusal.TheVariants.{Unknown, Cycle}
use Rattle.rules.proofs.Matching.{pair_right}
use Rattle.cells.specs.Layout.{PAIRS}
use Rattle.cells.specs.View.{counted, rows_in, pair_read, book_of}
use Rattle.cells.proofs.Entries.{rows_counted, pairs_are, entry_is}
use Rattle.answers.specs.Promises.{said_confirmed}
use Rattle.totals.specs.Gathered.{lower_in, total_in}
use Rattle.confirmed.specs.Work.{confirmed_in}

module _ (b : Book) (r o i : ℕ) where
  -- no such right
  pub no_right : right_unknown b r ≡ true → said_confirmed (Err Unknown) ≡ read_confirmed b r o i
  unfolding read_confirmed confirmed_read_refuses first_of order
  no_right e = rw e refl

  module _ (known : right_unknown b r ≡ false) where
    -- no such pair
    pub no_pair : pair_taken r o i b.pairs ≡ false → said_confirmed (Err Unknown) ≡ read_confirmed b r o i
    unfolding read_confirmed confirmed_read_refuses first_of order
    no_pair e = rw (known, e) refl

    module _ (there : pair_taken r o i b.pairs ≡ true) where
      -- the session of the right was not matched
      pub not_matched : is_matched b.matched (right b.rights r).direction (right b.rights r).session ≡ false → said_confirmed (Err Cycle) ≡ read_confirmed b r o i
      unfolding read_confirmed confirmed_read_refuses first_of order
      not_matched m = rw (known, there, m) refl

      pub granted_read : is_matched b.matched (right b.rights r).direction (right b.rights r).session ≡ true → (mw : List ℕ) → mw ≡ five (λ k. confirmed_at b.rights b.pairs k (pair_of r o i b.pairs))
          → said_confirmed (Ok mw) ≡ read_confirmed b r o i
      unfolding read_confirmed confirmed_read_refuses first_of order
      granted_read m mw e = rw (known, there, m, e) refl

-- the row of the pair that was found
module _ (b : List ℕ) (n : ℕ) (rows : List (List ℕ)) (e : rows ≡ rows_in b PAIRS 13 pair_limit) (l : n < counted b PAIRS pair_limit) where
  pub row_there : n < length rows
  row_there = rw (e, rows_counted b PAIRS 13 pair_limit) l

  -- its hours are those of the rules
  pub hours_are : (r o i : ℕ) (held sums lower : List ℕ) → held ≡ (right (book_of b).rights r).mw → sums ≡ five (total_in b r) → lower ≡ five (lower_in (get_or rows n []))
      → pair_of r o i (book_of b).pairs ≡ get_or (book_of b).pairs n (empty_pair r o i)
      → five (confirmed_in held sums lower) ≡ five (λ k. confirmed_at (book_of b).rights (book_of b).pairs k (pair_of r o i (book_of b).pairs))
  unfolding confirmed_at
  hours_are r o i held sums lower h s m p =
      let row : List ℕ = get_or rows n [] in
      let pair : pair_of r o i (book_of b).pairs ≡ pair_read row =
      p ∙ entry_is pair_read (book_of b).pairs rows (rw e (pairs_are b)) n (empty_pair r o i) row row_there (get_or_default rows n [] row row_there) in
      rw (pair_right r o i (book_of b).pairs, h, s, m, pair) refl
