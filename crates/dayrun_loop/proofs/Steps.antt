-- Each turn of the loop is the step that comes next, from the promises of the functions that it calls.
-- Assumes nothing.
use Rattle.std.proofs.Common.{◌≡◌, ℕ, suc, ◌+◌, ◌≤◌, Bool, true, false, ◌||◌, List, take, sym, refl, ◌∙◌, true≢false, arith}
use Rattle.std.proofs.lemmas.Grind.{common_steps}
use Rattle.lines.specs.Text.{line_size}
use Rattle.dayrun_progress.specs.declared.Buffers.{Buffers}
use Rattle.dayrun_progress.specs.declared.Next.{Next}
use Rattle.dayrun_progress.specs.declared.Next.TheVariants.{Take, Write, Read, End}
use Rattle.dayrun_progress.specs.States.{next_of, wrote_buffers, received_buffers}
use Rattle.stream.specs.Running.{AnswersNext, State, next_in, begins, answers, writes, reads}
use Rattle.dayrun_progress.proofs.Nexts.{answering, reading_on}
use Rattle.stream.proofs.Running.{writes_all}
use Rattle.dayrun_loop.specs.Steps.{state_of, Steps, taking, writing, reading, Turns, none, more, Arrives, reached, failed, Ends, all_written, cut_off, EndsWritten}

or-true : (a : Bool) → (a || true) ≡ true
or-true true = refl
or-true false = refl

-- nothing is written after a write that failed
none_written : {room size : ℕ} (buffers : Buffers room size) → next_of (wrote_buffers buffers false) ≡ Write → ⊥
unfolding next_of
none_written buffers t = grind (arith, common_steps)

arrives_take : {room size : ℕ} (st : State room size) (r : Buffers room size) (after : List ℕ) → Arrives st → next_in st ≡ Take → AnswersNext st.cells st.buffers r after → Arrives (state_of after r)
arrives_take st r after (reached input written _ s) t a = reached input written _ (answers r after s t a)
arrives_take st r after (failed _ _ old s w) t a = absurd (true≢false (sym (or-true old.buffers.progress.done) ∙ (answering _ t).going))

arrives_write : {room size : ℕ} (st : State room size) (written : Bool) → Arrives st → next_in st ≡ Write → Arrives (state_of st.cells (wrote_buffers st.buffers written))
arrives_write st true (reached input written _ s) t = reached input _ _ (writes s t)
arrives_write st false (reached input written _ s) t = failed input written st s t
arrives_write st written (failed _ _ old s w) t = absurd (none_written old.buffers t)

arrives_read : {room size : ℕ} (st : State room size) (bytes : List ℕ) → Arrives st → next_in st ≡ Read → Arrives (state_of st.cells (received_buffers st.buffers bytes))
arrives_read st bytes (reached input written _ s) t = reached _ written _ (reads bytes s t)
arrives_read st bytes (failed _ _ old s w) t = absurd (true≢false (sym (or-true old.buffers.progress.done) ∙ (reading_on _ t).going))

-- the step that comes next leads on
leads_on : {room size : ℕ} (st : State room size) (next : Next) (after : State room size) → Arrives st → next_in st ≡ next → Steps st next after → Arrives after
leads_on _ _ _ h t (taking st r after a) = arrives_take st r after h t a
leads_on _ _ _ h t (writing st r w) = rw w.after (arrives_write st w.written h t)
leads_on _ _ _ h t (reading st r m) = rw m.received (arrives_read st (take m.count m.brings.part) h t)

pub one_more : {room size : ℕ} (n : ℕ) (st : State room size) (next : Next) (after : State room size) → Turns n st → next_in st ≡ next → Steps st next after → Turns (n + 1) after
one_more n st next after turns t s = let e : suc n ≡ n + 1 = omega arith in rw e at (more n st next after turns t s)

pub arrives : {room size : ℕ} (n : ℕ) (st : State room size) → Turns n st → Arrives st
arrives _ _ (none cells b) = reached _ _ _ (begins cells b)
arrives _ _ (more n st next after turns t s) = leads_on st next after (arrives n st turns) t s

-- ---- the end

ends : {room size : ℕ} (st : State room size) → line_size ≤ size → Arrives st → next_in st ≡ End → Ends st
ends {room} {size} _ room_for_line (reached input written st s) t = all_written input written st s (λ rest last. writes_all room size input written rest st room_for_line s t last)
ends _ _ (failed input written st s w) t = cut_off input written st s w

pub ends_written : EndsWritten
ends_written room size cells l = ends _ l.room_for_line l.arrives (l.ends refl)
