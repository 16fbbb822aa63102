-- A chain of promises is the run of the rules, so demand 3 holds of it.
-- Assumes nothing.
use Rattle.std.specs.Prelude.{Result, sum, get_or}
use Prim.Native.Nat.{ℕ}
use mathlib.Core.Path.{◌≡◌, refl, sym, ap, ◌∙◌, fun_ext}
use mathlib.Core.List.{List, ◌∷◌, map}
use Rattle.rules.specs.Book.{Book}
use Rattle.rules.specs.Calls.{Call, Reply}
use Rattle.rules.specs.Said.{Answer, said}
use Rattle.rules.specs.Run.{Run, run}
use Rattle.rules.specs.Opening.{opening}
use Rattle.rules.specs.Reads.{ConfirmedReply, read_confirmed}
use Rattle.rules.specs.History.{Key, pairs_under}
use Rattle.rules.specs.Demand3.{confirmed_total}
use Rattle.rules.specs.declared.Refusal.{Refusal}
use Rattle.rules.proofs.Demand.{demand3}
use Rattle.cells.specs.View.{book_of}
use Rattle.answers.specs.Promises.{Opens, ReadsConfirmed, said_confirmed}
use Rattle.chains.specs.Chains.{Chain, done, next}
use Rattle.chains.specs.Demand.{confirmed_sum, ProgramDemand3}

record Follows (b : Book) (cs : List Call) (rs : List Answer) (last : List ℕ) : Type 0 where
  replies : (run b cs).replies ≡ map said rs
  book : (run b cs).book ≡ book_of last

cons_same : {x y : Reply} {l m : List Reply} → x ≡ y → l ≡ m → ◌≡◌ {A = List Reply} (x ∷ l) (y ∷ m)
cons_same p q = rw (p, q)

follows : {b last : List ℕ} {cs : List Call} {rs : List Answer} → Chain b cs rs last → Follows (book_of b) cs rs last
unfolding run
follows done = record { replies = refl; book = refl }
follows (next {cs = cs} a rest) =
    let ih = follows rest in
    record {
      replies = cons_same (sym a.reply) (ap (λ (x : Book). (run x cs).replies) (sym a.book) ∙ ih.replies);
      book = ap (λ (x : Book). (run x cs).book) (sym a.book) ∙ ih.book;
    }

follows_opened : {y m d : ℕ} {r : Answer} {first last : List ℕ} {cs : List Call} {rs : List Answer}
    → Opens y m d r first → Chain first cs rs last → Follows (opening y m d).book cs rs last
follows_opened o k = rw (← o.book) (follows k)

-- what the read of confirmed MW answers
mw_read : {last : List ℕ} {r o i : ℕ} {x : Result (List ℕ) Refusal} → ReadsConfirmed last r o i x → (said_confirmed x).mw ≡ (read_confirmed (book_of last) r o i).mw
mw_read p = ap (λ (y : ConfirmedReply). y.mw) p.reply

sum_read : (last : List ℕ) (k r : ℕ) (reads : Key → Result (List ℕ) Refusal) → ((x : Key) → ReadsConfirmed last x.right x.out x.into (reads x))
    → (ks : List Key) → confirmed_sum reads k r ks ≡ confirmed_total (book_of last) k r ks
sum_read last k r reads p ks =
    ap (λ (f : Key → ℕ). sum (map f (pairs_under r ks))) (fun_ext (λ (x : Key). ap (λ (mw : List ℕ). get_or mw k 0) (mw_read (p x))))

-- demand 3 for the program
pub program_demand3 : ProgramDemand3
program_demand3 year month date r first last cs rs o k =
    let f = follows_opened o k in
    let d = demand3 year month date cs in
    let w = rw (f.replies, f.book) at d.without_refused in
    record {
      the_day = rw f.book at d.the_day;
      known_day = rw f.book at d.known_day;
      left_of_direction = λ e hour x p. p.reply ∙ rw (f.replies, f.book) at (d.left_of_direction e hour);
      left_of_profile = λ e hour x p. p.reply ∙ rw (f.replies, f.book) at (d.left_of_profile e hour);
      direction_adds_up = λ e hour x p l m q. rw (← p.reply) at (rw (f.replies, f.book) at (d.direction_adds_up e hour (rw f.replies l) m q));
      profile_adds_up = λ e hour x p l m q. rw (← p.reply) at (rw (f.replies, f.book) at (d.profile_adds_up e hour (rw f.replies l) m q));
      bids_fit = rw f.replies at d.bids_fit;
      direction_within = λ e hour l m q. rw f.replies at (d.direction_within e hour (rw f.replies l) m q);
      profile_within = λ e hour l m q. rw f.replies at (d.profile_within e hour (rw f.replies l) m q);
      the_rights = λ e x p. p.reply ∙ rw (f.replies, f.book) at (d.the_rights e);
      the_sums = λ e hour l. rw f.replies at (d.the_sums e hour (rw f.replies l));
      the_confirmed = λ e o' i x p. p.reply ∙ rw (f.replies, f.book) at (d.the_confirmed e o' i);
      within_right = λ e h reads p. rw (sum_read last h e reads p) (rw (f.replies, f.book) at (d.within_right e h));
      within_out = λ e o' i h x p. rw (mw_read p) (rw (f.replies, f.book) at (d.within_out e o' i h));
      within_into = λ e o' i h x p. rw (mw_read p) (rw (f.replies, f.book) at (d.within_into e o' i h));
      rounded_down = λ e o' i h x p. rw (f.replies, f.book, ← mw_read p) at (d.rounded_down e o' i h);
      little_lost = λ e h reads p. rw (sum_read last h e reads p) (rw (f.replies, f.book) at (d.little_lost e h));
      without_refused = λ rs' last' k'.
          let g = follows_opened o k' in
          (sym g.replies ∙ ap (λ (x : Run). x.replies) w, sym g.book ∙ ap (λ (x : Run). x.book) w);
    }
