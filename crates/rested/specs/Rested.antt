-- The step `rest` on the site that the lent words hold.
use Rattle.std.specs.Prelude.{ℕ, ◌≡◌, true, false, cond, List, [], ◌∷◌}
use Rattle.rules.specs.Sizes.{even}
use Rattle.rules.specs.Site.{Outcome}
use Rattle.rules.specs.Step.{refused}
use Rattle.rules.specs.declared.model.Answer.{Answer}
use Rattle.rules.specs.declared.model.Call.{Call}
use Rattle.rules.specs.declared.model.Refusal.{Refusal}
use Rattle.laws.specs.Frames.{CallFits}
use Rattle.memory.specs.Memory.{site_of, readable, memory_form}
use Rattle.site.specs.Entries.{After, step_on}
use Rattle.rest.specs.Rest.{rest}
use Rattle.rest.specs.Rests.{AllFit, sees_links, SameStore}

-- words that cannot be read as a site are not by form
unfoldable pub rest_on : List ℕ → List ℕ → Outcome
rest_on xs ls =
    cond (readable xs ls) (rest (site_of xs ls)) (refused (site_of xs ls) Refusal.Form)

-- the step on words by form, which stay by form
pub record FormedRest (xs ls xs' ls' : List ℕ) (a : Answer) : Type 0 where
  pub after : After (rest (site_of xs ls)) xs ls xs' ls' a
  pub form : memory_form xs' ls' ≡ true

-- any calls on words, the latest first: by the contract of `step` a program that makes them has
-- just this
pub data RanOn (xs ls : List ℕ) : List Call → List ℕ → List ℕ → Type 0 where
  began : RanOn xs ls [] xs ls
  stepped : {ds : List Call} {ys ms zs ns : List ℕ} {a : Answer} (d : Call) → RanOn xs ls ds ys ms
      → After (step_on ys ms d) ys ms zs ns a → RanOn xs ls (d ∷ ds) zs ns

-- words by form in an odd epoch, the same put at rest, and the same calls on both: they hold the
-- same records and promises, and every later call is answered alike, but a Lose or a Repeat before
-- the next election
pub record UnseenOn : Type 0 where
  pub unseen : {xs ls ys ms us vs us' vs' : List ℕ} {ds : List Call} {a : Answer}
      → memory_form xs ls ≡ true → even (site_of xs ls).epoch ≡ false → AllFit ds
      → After (rest_on xs ls) xs ls ys ms a → RanOn xs ls ds us vs → RanOn ys ms ds us' vs'
      → SameStore (site_of us vs) (site_of us' vs')
      × ((d : Call) → CallFits d
      → ((site_of us vs).epoch ≡ (site_of xs ls).epoch → sees_links d ≡ false)
      → (step_on us vs d).answer ≡ (step_on us' vs' d).answer)
