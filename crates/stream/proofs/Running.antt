-- What the program writes does not depend on the parts that its input comes in, and is written before each read.
-- Assumes nothing.
use Rattle.std.proofs.Common.{◌≡◌, ℕ, zero, suc, ◌≤◌, Bool, true, false, cond, ◌||◌, eqb, ◌⊎◌, List, [], ◌∷◌, ◌++◌, length, drop, sym, refl, ap, ◌∙◌, inl, inr, true≢false, append_assoc, append-nil, arith, length-append, length-drop, lt-ltb}
use mathlib.Core.Bool.{false≢true}
use lib.Seq.{drop-append-le}
use Rattle.rules.specs.Book.{Book}
use Rattle.rules.specs.Records.{RecordReply, reader_refuses}
use Rattle.rules.proofs.Records.{reading_by, readable}
use Rattle.cells.specs.View.{book_of}
use Rattle.lines.specs.Text.{line_of}
use Rattle.dayrun_progress.specs.declared.Buffers.{Buffers}
use Rattle.dayrun_progress.specs.declared.Next.TheVariants.{Take, Read}
use Rattle.dayrun_records.specs.Records.{Outcome, start_book, at_front}
use Rattle.dayrun_settled.specs.Settled.{Bytes}
use Rattle.dayrun_progress.specs.States.{collected, answerable, wrote_buffers, received_buffers}
use Rattle.stream.specs.Input.{following, lines_in, lines_of}
use Rattle.stream.specs.Running.{AnswersNext, State, next_in, Reaches, begins, answers, writes, reads, WritesAll, WritesAtOnce, WaitsWhereOpen}
use Rattle.dayrun_records.proofs.Taking.{front_read, front_refused}
use Rattle.dayrun_settled.proofs.Front.{end_least}
use Rattle.dayrun_settled.proofs.Settled.{nothing_open, settled_stays, unsettled_open, settled_more}
use Rattle.dayrun_progress.proofs.Nexts.{answering, reading_on, unanswered, ending}

-- ---- the lines of an input

-- a record that is not refused with 1 has two bytes at least, and lies in the bytes
front_size : (b : Book) (s : List ℕ) → (eqb (at_front b s).reply.number 1 ≡ false → 2 ≤ (at_front b s).length) × ((at_front b s).length ≤ length s)
front_size b s = go (reader_refuses s 1) refl
  where
    go : (t : Bool) → reader_refuses s 1 ≡ t → (eqb (at_front b s).reply.number 1 ≡ false → 2 ≤ (at_front b s).length) × ((at_front b s).length ≤ length s)
    go true e = rw (front_refused b s (ap (λ (x : RecordReply). x.reply) (reading_by s true e))) (λ h. absurd (true≢false h), omega arith)
    go false e =
        let rd = reading_by s false e in
        rw (front_read b s (ap (λ (x : RecordReply). x.reply.number) rd), rd) (λ h. end_least s, (readable s e).ends)

answerable_none : (e : Bool) → answerable e [] ≡ false
unfolding answerable
answerable_none true = refl
answerable_none false = nothing_open

answerable_some : (e : Bool) (s : List ℕ) → answerable e s ≡ true → 1 ≤ length s
answerable_some e [] h = absurd (false≢true (sym (answerable_none e) ∙ h))
answerable_some e (x ∷ s) h = omega arith

-- more turns than bytes add nothing
lines_more : (n m : ℕ) (e : Bool) (b : Book) (k : ℕ) (s : List ℕ) → length s ≤ n → length s ≤ m → lines_in n e b k s ≡ lines_in m e b k s
unfolding lines_in
lines_more zero zero e b k s l h = refl
lines_more zero (suc m) e b k [] l h = rw (answerable_none e)
lines_more zero (suc m) e b k (x ∷ s) l h = absurd (omega arith)
lines_more (suc n) zero e b k [] l h = rw (answerable_none e)
lines_more (suc n) zero e b k (x ∷ s) l h = absurd (omega arith)
lines_more (suc n) (suc m) e b k s l h = go (answerable e s) refl (eqb (at_front b s).reply.number 1) refl (λ p q. lines_more n m e (at_front b s).book (following k) (drop (at_front b s).length s) p q)
  where
    go : (t : Bool) → answerable e s ≡ t → (u : Bool) → eqb (at_front b s).reply.number 1 ≡ u
        → (length (drop (at_front b s).length s) ≤ n → length (drop (at_front b s).length s) ≤ m
        → lines_in n e (at_front b s).book (following k) (drop (at_front b s).length s) ≡ lines_in m e (at_front b s).book (following k) (drop (at_front b s).length s))
        → lines_in (suc n) e b k s ≡ lines_in (suc m) e b k s
    go false f u g ih = rw f
    go true f true g ih = rw (f, g)
    go true f false g ih =
        let two = (front_size b s).0 g in
        let d = length-drop (at_front b s).length s in
        let a = answerable_some e s f in
        rw (f, g, ih (omega arith) (omega arith))

-- one turn
lines_turn : (e : Bool) (b : Book) (k : ℕ) (s : List ℕ)
    → lines_of e b k s
    ≡ cond (answerable e s) (line_of k (at_front b s).reply
    ++ cond (eqb (at_front b s).reply.number 1) [] (lines_in (length s) e (at_front b s).book (following k) (drop (at_front b s).length s))) []
unfolding lines_in
lines_turn e b k s = lines_more (length s) (suc (length s)) e b k s (omega arith) (omega arith)

-- no line, where nothing can be answered
lines_none : (e : Bool) (b : Book) (k : ℕ) (s : List ℕ) → answerable e s ≡ false → lines_of e b k s ≡ []
lines_none e b k s f = lines_turn e b k s ∙ rw f

-- one line, and those after it
lines_next : (e : Bool) (b : Book) (k : ℕ) (s : List ℕ) → answerable e s ≡ true
    → lines_of e b k s
    ≡ line_of k (at_front b s).reply ++ cond (eqb (at_front b s).reply.number 1) [] (lines_of e (at_front b s).book (following k) (drop (at_front b s).length s))
lines_next e b k s f =
    let rest : List ℕ = drop (at_front b s).length s in
    let few : length rest ≤ length s = simp length-drop (omega arith) in
    lines_turn e b k s ∙ rw (f, lines_more (length s) (length rest) e (at_front b s).book (following k) rest few (omega arith))

-- ---- one step

-- once the input has ended, nothing follows and any bytes are answered
abbrev Allowed : Bool → Bool → List ℕ → Type 0
Allowed ended e rest = ended ≡ true → (e ≡ true) × (rest ≡ [])

-- what can be answered can be answered with what follows, and alike
answer_same : (ended e : Bool) (s rest : List ℕ) → Allowed ended e rest → Bytes s → answerable ended s ≡ true
    → (answerable e (s ++ rest) ≡ true) × ((b : Book) → at_front b (s ++ rest) ≡ at_front b s)
unfolding answerable at_front
answer_same true e s rest al fit a =
    let f = al refl in
    rw (f.0, f.1, append-nil s) (a, λ b. refl)
answer_same false true s rest al fit a =
    (lt-ltb 0 (length (s ++ rest)) (omega (arith, length-append s rest, answerable_some false s a)), λ b. rw (settled_stays s rest fit a))
answer_same false false s rest al fit a = (settled_more s rest fit a, λ b. rw (settled_stays s rest fit a))

-- ---- all steps

or_false : (a : Bool) → (a || false) ≡ a
or_false true = refl
or_false false = refl

-- what is still to be printed, of the state and what follows its unread bytes
abbrev left : {room size : ℕ} → Bool → State room size → List ℕ → List ℕ
left e st rest = cond st.buffers.progress.done [] (lines_of e (book_of st.cells) st.buffers.progress.position (st.buffers.unread ++ rest))

-- the lines of the input and what follows it are those written, those collected and those still to come
abbrev Kept : {room size : ℕ} → List ℕ → List ℕ → State room size → Type 0
Kept input written st =
    (e : Bool) (rest : List ℕ) → Allowed st.buffers.progress.ended e rest
    → lines_of e start_book 1 (input ++ rest) ≡ written ++ (collected st.buffers ++ left e st rest)

module _ {room size : ℕ} (input written : List ℕ) (st : State room size) (kept : Kept input written st) where
  abbrev outcome : Outcome
  outcome = at_front (book_of st.cells) st.buffers.unread

  kept_answer : (r : Buffers room size) (after : List ℕ) → next_in st ≡ Take → AnswersNext st.cells st.buffers r after → Kept input written (record { cells = after; buffers = r })
  kept_answer r after t a e rest al =
      let h = answering st.buffers t in
      let allowed : Allowed st.buffers.progress.ended e rest = rw a.moved at al in
      let same = answer_same st.buffers.progress.ended e st.buffers.unread rest allowed a.bytes h.known in
      let b : Book = book_of st.cells in
      let k : ℕ = st.buffers.progress.position in
      let line : List ℕ = line_of k outcome.reply in
      let next : lines_of e b k (st.buffers.unread ++ rest)
      ≡ line ++ cond (eqb outcome.reply.number 1) [] (lines_of e outcome.book (following k) (drop outcome.length st.buffers.unread ++ rest))
      = lines_next e b k (st.buffers.unread ++ rest) same.0 ∙ rw (same.1 b, drop-append-le outcome.length st.buffers.unread rest (front_size b st.buffers.unread).1) in
      rw (a.book, a.moved, append_assoc (collected st.buffers) line _, ← next) (rw h.going at (kept e rest allowed))

  kept_write : Kept input (written ++ collected st.buffers) (record st { buffers = wrote_buffers st.buffers true })
  kept_write e rest al = rw (or_false st.buffers.progress.done, append_assoc written (collected st.buffers) (left e st rest)) (kept e rest al)

  kept_read : (more : List ℕ) → next_in st ≡ Read → Kept (input ++ more) written (record st { buffers = received_buffers st.buffers more })
  kept_read more t e rest al =
      let h = reading_on st.buffers t in
      let opened : Allowed st.buffers.progress.ended e (more ++ rest) = λ q. absurd (true≢false (sym q ∙ h.open_input)) in
      rw (append_assoc input more rest, append_assoc st.buffers.unread more rest) (kept e (more ++ rest) opened)

kept : {room size : ℕ} {input written : List ℕ} {st : State room size} → Reaches input written st → Kept input written st
kept (begins cells b) = λ e rest al. rw b refl
kept (answers {input} {written} {st} r after s t a) = kept_answer input written st (kept s) r after t a
kept (writes {input} {written} {st} s t) = kept_write input written st (kept s)
kept (reads {input} {written} {st} more s t) = kept_read input written st (kept s) more t

pub writes_at_once : WritesAtOnce
writes_at_once room size input written st room_for_line s t =
    let h = reading_on st.buffers t in
    let unknown = unanswered st.buffers room_for_line t in
    let none = lines_none false (book_of st.cells) st.buffers.progress.position st.buffers.unread (rw h.open_input at unknown) in
    sym (rw (append-nil input, append-nil st.buffers.unread, h.empty, h.going, none, append-nil written) at (kept s false [] (λ q. absurd (true≢false (sym q ∙ h.open_input)))))

pub waits_where_open : WaitsWhereOpen
unfolding answerable
waits_where_open room size st room_for_line t =
    let unknown = unanswered st.buffers room_for_line t in
    unsettled_open st.buffers.unread (rw (reading_on st.buffers t).open_input at unknown)

-- nothing is left where the program is done, or no byte is
none_left : {room size : ℕ} (st : State room size) (rest : List ℕ) → (st.buffers.progress.ended ≡ true → rest ≡ [])
    → (st.buffers.progress.done ≡ true) ⊎ ((st.buffers.progress.ended ≡ true) × (answerable st.buffers.progress.ended st.buffers.unread ≡ false)) → left true st rest ≡ []
none_left st rest last (inl d) = rw d refl
none_left st rest last (inr (e, a)) =
    let none = lines_none true (book_of st.cells) st.buffers.progress.position st.buffers.unread (rw e at a) in
    rw (last e, append-nil st.buffers.unread, none) (either st.buffers.progress.done)
  where
    either : (d : Bool) → cond {A = List ℕ} d [] [] ≡ []
    either true = refl
    either false = refl

pub writes_all : WritesAll
writes_all room size input written rest st room_for_line s t last =
    let h = ending st.buffers room_for_line t in
    sym (kept s true rest (λ q. (refl, last q)) ∙ rw (h.empty, none_left st rest last h.over) (append-nil written))
