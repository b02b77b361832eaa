-- What the run promises: the paper's run on the site that the lent words hold (Q-9).
use Rattle.std.specs.Prelude.{ℕ, ◌≡◌, Bool, true, cond, List, [], ◌∷◌, eqb, length}
use Rattle.rules.specs.Sizes.{even}
use Rattle.rules.specs.Site.{Site}
use Rattle.rules.specs.Form.{form}
use Rattle.rules.specs.Needs.{need, ruled}
use Rattle.rules.specs.declared.model.Call.{Call}
use Rattle.rules.specs.declared.model.Refusal.{Refusal}
use Rattle.wait.specs.Run.{Outcome, ended, next_turn, run_of}
use Rattle.std.specs.Prelude.{Option, None}
use Rattle.wait.specs.declared.model.Run.{Run}
use Rattle.memory.specs.Memory.{past_site, past_links, site_of, readable, memory_form}

-- no step was used: the call was refused, or nothing was done
abbrev pub none_used : Run → Bool
none_used (Run.Ran used) = eqb used 0
none_used (Run.Stopped why used) = eqb used 0
none_used (Run.Refused why) = true

-- the outcome o of a run on the words xs and ls: they have become xs' and ls', and r was answered
pub record RunAfter (o : Outcome) (xs ls xs' ls' : List ℕ) (r : Run) : Type 0 where
  pub answer : r ≡ o.answer
  pub site : site_of xs' ls' ≡ o.next
  pub kept : none_used r ≡ true → (xs' ≡ xs) × (ls' ≡ ls)
  pub past-site : past_site o.next.n o.next.J xs' ≡ past_site o.next.n o.next.J xs
  pub past-links :
      past_links o.next.n o.next.J o.next.L ls'
      ≡ past_links o.next.n o.next.J o.next.L ls
  pub site-words : length xs' ≡ length xs
  pub links-words : length ls' ≡ length ls
  pub readable : readable xs ls ≡ true → readable xs' ls' ≡ true

-- a run: words that cannot be read as a site are not by form
unfoldable pub run_on : List ℕ → List ℕ → ℕ → Outcome
run_on xs ls steps =
    cond (readable xs ls) (run_of (site_of xs ls) steps)
    (ended (site_of xs ls) (Run.Refused Refusal.Form))

-- what a run would do next: nothing where it would be refused
unfoldable pub next_of : Site → Option Call
next_of s =
    ruled (λ why. None)
    (need Refusal.Form (form s)
    ∷ need Refusal.Condition (even s.epoch)
    ∷ [])
    (next_turn s)

unfoldable pub next_on : List ℕ → List ℕ → Option Call
next_on xs ls = cond (readable xs ls) (next_of (site_of xs ls)) None

-- a run on words by form, which stay by form
pub record FormedRun (steps : ℕ) (xs ls xs' ls' : List ℕ) (r : Run) : Type 0 where
  pub after : RunAfter (run_of (site_of xs ls) steps) xs ls xs' ls' r
  pub form : memory_form xs' ls' ≡ true
