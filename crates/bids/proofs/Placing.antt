-- A bid that nothing refuses: its stores leave the book of the rules.
-- Assumes nothing.
use Prim.Native.Nat.{ℕ, ◌≤◌}
use mathlib.Core.Path.{◌≡◌, ap, ◌∙◌}
use mathlib.Core.Bool.{false, not}
use mathlib.Core.List.{List}
use lib.ListN.{get_or}
use borrow.Author.Tests.{eq-eqb}
use Rattle.rules.specs.Basics.{has, any_above}
use Rattle.rules.specs.Sessions.{first_hour}
use Rattle.rules.specs.Book.{Book, model_of, profile_limit}
use Rattle.rules.specs.Bids.{is_short, shortage, with_bid, with_right}
use Rattle.rules.specs.Refusals.{order, refuses, hours_lacking, wrong_hours, shortage_of}
use Rattle.rules.specs.Effects.{is_timed, clock_after, directions_after, profiles_after, parties_after, offered_after, granted_after, rights_after, pairs_after, matched_after, effect}
use Rattle.rules.specs.Details.{detail}
use Rattle.rules.proofs.Above.{zeros_from}
use Rattle.rules.proofs.Bools.{or_left, or-true}
use Rattle.rules.proofs.Decisions.{Granted, is_granted, fails}
use Rattle.cells.specs.Layout.{PROFILES}
use Rattle.cells.specs.View.{Cells, counted, book_of}
use Rattle.cells.specs.Updates.{with_granted, with_rights, with_clock}
use Rattle.stores.specs.Bids.{granted_hours}
use Rattle.stores.specs.Stores.{clocked}
use Rattle.stores.proofs.Stores.{clock_set}
use Rattle.stores.proofs.Grants.{bid_fitting}
use Rattle.rights.specs.Work.{Enters, Booked}
use Rattle.rights.proofs.Rights.{enters_still}
use Rattle.bids.specs.declared.BidCall.{BidCall}
use Rattle.bids.specs.declared.Booking.{Booking}
use Rattle.bids.specs.Work.{bid_of, Cleared, Placed}

module _ {b : List ℕ} {call : BidCall} {x : Booking} (k : Cleared b call x) (cells : Cells b) {b1 : List ℕ}
    (e1 : b1 ≡ granted_hours (counted b PROFILES profile_limit) x.hours.direction x.hours.first.0 x.hours.count call.mw b) where
  no_condition : Granted (book_of b) (bid_of call)
  no_condition = is_granted (book_of b) (bid_of call) (eq-eqb _ 0 k.clear)

  lacking : (j : ℕ) → x.hours.count ≤ j → get_or call.mw j 0 ≡ 0
  unfolding order has refuses wrong_hours hours_lacking
  lacking = zeros_from x.hours.count call.mw (rw k.hours_are.count_is (or_left _ (not (any_above 0 call.mw)) (fails no_condition 9 tt)))

  enough : is_short (shortage (book_of b) x.hours.direction x.hours.first.0 call.mw) ≡ false
  unfolding order has refuses shortage_of
  enough = rw (k.hours_are.direction_is, k.hours_are.first_is) (fails no_condition 15 tt)

  -- the granted MW are those of the rules
  abbrev grants : List ℕ
  grants = with_bid (book_of b).profiles call.direction (first_hour (book_of b).day.hours (model_of (book_of b) call.direction) call.session.0) call.mw 0 (book_of b).granted

  granted_book : book_of b1 ≡ with_granted (book_of b) grants
  granted_book =
      let inside = x.hours.inside in
      ap book_of e1
      ∙ bid_fitting b x.hours.direction x.hours.first.0 x.hours.count call.mw cells inside.direction inside.first inside.last lacking enough
      ∙ rw (k.hours_are.direction_is, k.hours_are.first_is)

  -- the rights are as they were, and the entry with them
  rights_same : (book_of b1).rights ≡ (book_of b).rights
  rights_same = ap (λ (y : Book). y.rights) granted_book

  pub entry_same : Enters b1 x.right x.entry
  entry_same = enters_still rights_same k.enters

  -- all stores together
  pub placed : {n : ℕ} {b2 b3 : List ℕ} → Booked b1 x.right call.mw n b2 → b3 ≡ clocked call.time b2 → Placed b call n b3
  unfolding effect is_timed clock_after directions_after profiles_after parties_after offered_after granted_after rights_after pairs_after matched_after detail
  placed r e3 =
      record {
        number_is = r.number_is ∙ rw (rights_same, k.right_is);
        book_is =
            ap book_of e3
            ∙ clock_set _ call.time r.count
            ∙ ap (λ (y : Book). with_clock y call.time) (r.book_is ∙ ap (λ (y : Book). with_rights y (with_right x.right.model x.right.key.holder x.right.key.direction x.right.key.session.0 call.mw y.rights)) granted_book)
            ∙ rw (k.right_is, or-true (book_of b).started);
      }
