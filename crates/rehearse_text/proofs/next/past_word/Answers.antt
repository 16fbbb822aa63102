-- `past_word` meets its contract.
-- Assumes nothing.
use Rattle.std.proofs.Common.{◌≡◌, ◌≢◌, ◌++◌, ℕ, List, Bool, true, false, Option, None, Some, Bor, IfNone, ap, sym, ◌∙◌, rules}
use Rattle.std.specs.Bool.{then_some}
use Rattle.std.specs.Option.{MatchOption}
use Rattle.std.proofs.lemmas.Bool.Decides.{Decides-eqb}
use Rattle.std.proofs.lemmas.List.{append_cancel_left}
use Rattle.std.proofs.lemmas.Slice.Eq.{strip_prefix_is}
use Rattle.rehearse_text.specs.Words.{is_at_break}
use Rattle.rehearse_text.proofs.next.past_word.Goals as goal

-- nothing is left where the word isn't there, or goes on
no_word : {Returns : Bor (List ℕ) → Bool → Type 0} (text word : List ℕ) (past found : Option (Bor (List ℕ))) → ((x : Bor (List ℕ)) (b : Bool) → Returns x b → b ≡ is_at_break x.now)
    → MatchOption past ((rest : List ℕ) → text ≢ word ++ rest) (λ x. text ≡ word ++ x.now)
    → MatchOption past (found ≡ None) (λ x. (b : Bool) × Returns x b × (found ≡ then_some b x))
    → IfNone found ((rest : List ℕ) → text ≡ word ++ rest → is_at_break rest ≡ false)
no_word text word None found told m f = rw f (λ rest e. absurd (m rest e))
no_word text word (Some x) found told m (true, q, f) = rw f tt
no_word text word (Some x) found told m (false, q, f) = rw f (λ rest e. ap is_at_break (append_cancel_left word rest x.now (sym e ∙ m)) ∙ sym (told x false q))

pub returns-clause-word : goal.returns-clause-word
returns-clause-word c =
    let past = strip_prefix_is Decides-eqb c.past_all.result.now c.args.word.now c.strip_prefix.result c.strip_prefix.ensures.cases in
    search (past, c.filter.ensures, c.past_all.ensures, rules)

pub returns-clause-none : goal.returns-clause-none
returns-clause-none c =
    let past = strip_prefix_is Decides-eqb c.past_all.result.now c.args.word.now c.strip_prefix.result c.strip_prefix.ensures.cases in
    rw (sym c.past_all.ensures) (no_word _ _ _ _ (λ x b q. search (q, rules)) past c.filter.ensures)
