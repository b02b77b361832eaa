-- What the entries promise: the paper's rules on the site that the lent words hold.
use Rattle.std.specs.Prelude.{Result, Err}
use Rattle.std.specs.Prelude.{ℕ, ◌≡◌, true, false, cond, List, [], ◌∷◌, length}
use Rattle.rules.specs.Sizes.{sizes_form}
use Rattle.rules.specs.Answers.{is_refusal}
use Rattle.rules.specs.Site.{Outcome, fresh}
use Rattle.rules.specs.Needs.{need, ruled}
use Rattle.rules.specs.Step.{refused, did, step, holds}
use Rattle.rules.specs.Unheard.{unheard}
use Rattle.rules.specs.declared.model.Answer.{Answer}
use Rattle.rules.specs.declared.model.Call.{Call}
use Rattle.rules.specs.declared.model.Refusal.{Refusal}
use Rattle.memory.specs.Memory.{enough, past_site, past_links, site_of, readable, memory_form}

-- the outcome o of a call on the words xs and ls: they have become xs' and ls', and a was answered
pub record After (o : Outcome) (xs ls xs' ls' : List ℕ) (a : Answer) : Type 0 where
  pub answer : a ≡ o.answer
  pub site : site_of xs' ls' ≡ o.next
  pub kept : is_refusal a ≡ true → (xs' ≡ xs) × (ls' ≡ ls)
  pub past-site : past_site o.next.n o.next.J xs' ≡ past_site o.next.n o.next.J xs
  pub past-links :
      past_links o.next.n o.next.J o.next.L ls'
      ≡ past_links o.next.n o.next.J o.next.L ls
  pub site-words : length xs' ≡ length xs
  pub links-words : length ls' ≡ length ls
  pub readable : readable xs ls ≡ true → readable xs' ls' ≡ true

-- a call: words that cannot be read as a site are not by form
unfoldable pub step_on : List ℕ → List ℕ → Call → Outcome
step_on xs ls d =
    cond (readable xs ls) (step (site_of xs ls) d) (refused (site_of xs ls) Refusal.Form)

-- a fresh site: 13, then 12 where a list of words is too short
unfoldable pub fresh_on : List ℕ → List ℕ → ℕ → ℕ → ℕ → Outcome
fresh_on xs ls n J L =
    ruled (refused (site_of xs ls))
    (need Refusal.Sizes (sizes_form n J L)
    ∷ need Refusal.Buffer (enough n J L xs ls)
    ∷ [])
    (did (fresh n J L))

-- a holds line
unfoldable pub holds_on : List ℕ → List ℕ → ℕ → ℕ → ℕ → ℕ → Answer
holds_on xs ls c k left right =
    cond (readable xs ls) (holds (site_of xs ls) c k left right) (Answer.Refused Refusal.Form)

-- who has not answered the lease of box c (Q-12)
unfoldable pub unheard_on : List ℕ → List ℕ → ℕ → Result ℕ Refusal
unheard_on xs ls c =
    cond (readable xs ls) (unheard (site_of xs ls) c) (Err Refusal.Form)

-- a call on words by form, which stay by form
pub record FormedStep (d : Call) (xs ls xs' ls' : List ℕ) (a : Answer) : Type 0 where
  pub after : After (step (site_of xs ls) d) xs ls xs' ls' a
  pub form : memory_form xs' ls' ≡ true

-- a fresh site, by form where it is done
pub record FreshMade (n J L : ℕ) (xs ls xs' ls' : List ℕ) (a : Answer) : Type 0 where
  pub after : After (fresh_on xs ls n J L) xs ls xs' ls' a
  pub form : is_refusal a ≡ false → memory_form xs' ls' ≡ true
