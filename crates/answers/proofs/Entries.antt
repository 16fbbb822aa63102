-- An entry by its number, found in the rows of its table or not there.
-- Assumes nothing.
use Rattle.std.proofs.Common.{◌≡◌, ℕ, Bool, false, not, ◌||◌, ap₂, ◌≤◌, ◌<◌, List, [], ◌∷◌, Some, None, length, get_or, refl, sym, ap, ◌∙◌}
use Rattle.rules.specs.Basics.{no_mw}
use Rattle.rules.specs.Book.{Book, Direction, Party, direction, model_of, direction_limit, party_limit, right_limit}
use Rattle.rules.specs.declared.Session.{Session}
use Rattle.tables.specs.declared.Direction.{Direction as DirectionRead}
use Rattle.day.specs.declared.Day.{Day}
use Rattle.rules.specs.Sessions.{session_there}
use Rattle.rules.specs.Refusals.{direction_unknown, session_unknown}
use Rattle.tables.specs.Rows.{direction_of}
use Rattle.cells.specs.Layout.{DIRECTIONS, PARTIES, RIGHTS}
use Rattle.cells.specs.View.{rows_in, direction_read, party_read, right_read, part, cell_from, day_hours_in, weekday_in, book_of}
use Rattle.cells.specs.Loops.{rows}
use Rattle.cells.proofs.Entries.{directions_are, parties_are, rights_are, past_last, is_there, entry_is}
use Rattle.answers.specs.Entries.{FindsDirection, FindsAccess, FindsRight, session_of}

module _ (b : List ℕ) (rs : List (List ℕ)) (i : ℕ) where
  module _ (e : rs ≡ rows_in b DIRECTIONS 3 direction_limit) where
    pub no_direction : length rs ≤ i → FindsDirection (book_of b) i None
    no_direction l = past_last direction_read (book_of b).directions rs (rw e (directions_are b)) i l

    pub direction_found : (row : List ℕ) (x : DirectionRead) → i < length rs → row ≡ get_or rs i row → direction_of x ≡ direction_read row → FindsDirection (book_of b) i (Some x)
    direction_found row x l q r =
        let all = directions_are b in
        (is_there direction_read (book_of b).directions rs (rw e all) i l, r ∙ sym (entry_is direction_read (book_of b).directions rs (rw e all) i (record { out = 0; into = 0; model = 0 }) row l q))

  module _ (e : rs ≡ rows_in b PARTIES 17 party_limit) where
    pub no_party : length rs ≤ i → FindsAccess (book_of b) i None
    no_party l = past_last party_read (book_of b).parties rs (rw e (parties_are b)) i l

    pub access_found : (row : List ℕ) → i < length rs → row ≡ get_or rs i row → FindsAccess (book_of b) i (Some (get_or row 16 0))
    access_found row l q =
        let all = parties_are b in
        (is_there party_read (book_of b).parties rs (rw e all) i l, sym (ap (λ (x : Party). x.access) (entry_is party_read (book_of b).parties rs (rw e all) i (record { code = []; access = 0 }) row l q)))

  module _ (e : rs ≡ rows_in b RIGHTS 8 right_limit) where
    pub no_right : length rs ≤ i → FindsRight (book_of b) i None
    no_right l = past_last right_read (book_of b).rights rs (rw e (rights_are b)) i l

    pub right_found : (row : List ℕ) (h d : ℕ) (s : Session) (mw : List ℕ) → i < length rs → row ≡ get_or rs i row → h ≡ (right_read row).holder → d ≡ (right_read row).direction → s.0 ≡ (right_read row).session → mw ≡ (right_read row).mw
        → FindsRight (book_of b) i (Some (record { holder = h; direction = d; session = s; mw = mw }))
    right_found row h d s mw l q eh ed es em =
        let all = rights_are b in (
          is_there right_read (book_of b).rights rs (rw e all) i l,
          rw (eh, ed, em, entry_is right_read (book_of b).rights rs (rw e all) i (record { holder = 0; direction = 0; session = 0; mw = no_mw }) row l q) (ap (λ (n : ℕ). record { holder = (right_read row).holder; direction = (right_read row).direction; session = record { 0 = n }; mw = part row 3 5 }) es),
        )

-- a session, by its direction's model and the day
module _ (b : List ℕ) (d : ℕ) (s : Session) (m : ℕ) (day : Day) (model : m ≡ model_of (book_of b) d) (hours : day.hours ≡ day_hours_in b) where
  pub session_is : day.weekday ≡ weekday_in b → record { day = day; model = m; session = s } ≡ session_of (book_of b) d s
  unfolding book_of
  session_is weekday =
      ap₂ (λ (h w : ℕ). record { day = record { hours = h; weekday = w }; model = m; session = s }) hours weekday
      ∙ ap (λ (n : ℕ). record { day = record { hours = day_hours_in b; weekday = weekday_in b }; model = n; session = s }) model

  pub unknown_is : {t u : Bool} → direction_unknown (book_of b) d ≡ false → t ≡ session_there day.hours m s.0 → t ≡ u → (direction_unknown (book_of b) d || session_unknown (book_of b) d s.0) ≡ not u
  unfolding book_of
  unknown_is f e q = rw (f, ← hours, ← model, ← q, e)

pub model_is : (b : Book) (d : ℕ) {x : DirectionRead} → direction_of x ≡ direction b.directions d → x.model ≡ model_of b d
model_is b d e = ap (λ (y : Direction). y.model) e
