-- A nomination's pair: 13 is that of the rules, and the stores of a nomination that nothing refuses leave the book of the rules, and its marks.
-- Assumes nothing.
use Rattle.std.proofs.Common.{◌≡◌, ℕ, ◌+◌, ◌*◌, ◌≤◌, Bool, List, length, Ok, refl, sym, ap, ◌∙◌, arith}
use lib.Seq.{sets, length-sets}
use Rattle.rules.specs.Book.{Book, Pair, right}
use Rattle.rules.specs.Nominations.{out_of, into_of, with_pair}
use Rattle.rules.specs.Refusals.{refuses, full, number}
use Rattle.rules.specs.Effects.{is_timed, clock_after, directions_after, profiles_after, parties_after, offered_after, granted_after, rights_after, pairs_after, matched_after, effect}
use Rattle.rules.specs.Details.{detail}
use Rattle.rules.specs.Sides.{side_number}
use Rattle.rules.specs.declared.Side.{Side}
use Rattle.rules.specs.declared.Side.TheVariants.{Out, In}
use Rattle.rules.proofs.Bools.{or-true}
use Rattle.cells.specs.Layout.{PAIRS}
use Rattle.cells.specs.View.{book_of}
use Rattle.cells.specs.Updates.{with_pairs, with_clock}
use Rattle.stores.specs.Stores.{clocked}
use Rattle.stores.proofs.Stores.{clock_set}
use Rattle.stores.proofs.Pairs.{side_replaced}
use Rattle.marks.specs.Totals.{marks_of}
use Rattle.marks.proofs.Sums.{marks_are}
use Rattle.pairs.specs.Work.{PairThere}
use Rattle.pairs.proofs.Pairs.{IsFull}
use Rattle.answers.specs.Promises.{Answers}
use Rattle.answers.proofs.Laws.{granted}
use Rattle.nomination_tests.specs.declared.NominationCall.{NominationCall}
use Rattle.nomination_tests.specs.Named.{nominate_of}
use Rattle.nominations.specs.declared.Entry.{Entry}
use Rattle.nominations.specs.Work.{key_of, Cleared, Placed}

side_there : (s : Side) → side_number s ≤ 1
side_there Out = omega arith
side_there In = omega arith

-- ---- 13: the entry of the pair is that of the rules

pub full_is : (b : List ℕ) (c : NominationCall) (s : Side) → side_number s ≡ c.side → {t : Bool} → IsFull (book_of b) (key_of c s) ≡ t → refuses (book_of b) (nominate_of c) 13 ≡ t
unfolding refuses full
full_is b c s side h = rw (← side) h

-- ---- all stores together

module _ (b : List ℕ) (c : NominationCall) (e : Entry) (ok : Cleared b c e) (size : length c.mw ≡ 5) (k : ℕ) (b1 b2 b3 : List ℕ)
    (s : PairThere b (key_of c e.side) k b1) (e2 : b2 ≡ sets b1 (PAIRS + 4 + k * 13 + 5 * side_number e.side) c.mw) (e3 : b3 ≡ clocked c.time b2) where
  abbrev after : List Pair
  after = with_pair c.right (out_of c.sender c.other c.side) (into_of c.sender c.other c.side) c.side c.mw (book_of b).pairs

  side_book : book_of b2 ≡ with_pairs (book_of b) after
  side_book =
      let row = s.row in
      ap book_of e2
      ∙ side_replaced b1 k (side_number e.side) c.mw (omega arith) (side_there e.side) s.count size row
      ∙ ap (λ (x : List Pair). with_pairs (book_of b1) x) (s.pair (side_number e.side) c.mw ∙ rw ok.side_is refl)
      ∙ ap (λ (x : Book). with_pairs x after) s.rest

  all_book : book_of b3 ≡ with_clock (with_pairs (book_of b) after) c.time
  all_book = ap book_of e3 ∙ clock_set b2 c.time (ap length e2 ∙ length-sets b1 _ c.mw ∙ s.count) ∙ ap (λ (x : Book). with_clock x c.time) side_book

  pub placed : (n : ℕ) → n ≡ marks_of e.held c.right (side_number e.side) (book_of b3).pairs → Placed b c n b3
  unfolding effect is_timed clock_after directions_after profiles_after parties_after offered_after granted_after rights_after pairs_after matched_after detail
  placed n q =
      record {
        number_is = q ∙ rw (ok.held_is, ok.side_is) (ap (λ (x : Book). marks_of (right (book_of b).rights c.right).mw c.right c.side x.pairs) all_book) ∙ sym (marks_are (book_of b).rights after c.right c.side);
        book_is = all_book ∙ rw (or-true (book_of b).started) refl;
      }

pub nomination_answers : (b b' : List ℕ) (c : NominationCall) (n : ℕ) → number (book_of b) (nominate_of c) ≡ 0 → Placed b c n b' → Answers b (nominate_of c) (Ok n) b'
nomination_answers b b' c n g w =
    granted b b' (nominate_of c) n g w.number_is w.book_is
