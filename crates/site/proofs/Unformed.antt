-- Words that are not by form: every call and question refuses them with 1, before anything else.
use Rattle.std.specs.Prelude.{Err}
use Prim.Native.Nat.{ℕ}
use mathlib.Core.Path.{◌≡◌, refl}
use mathlib.Core.Bool.{true, false, cond}
use mathlib.Core.List.{List}
use Rattle.rules.specs.Site.{Site}
use Rattle.rules.specs.Form.{form}
use Rattle.rules.specs.Step.{refused, step, holds}
use Rattle.rules.specs.Unheard.{unheard}
use Rattle.rules.specs.declared.model.Answer.{Answer}
use Rattle.rules.specs.declared.model.Call.{Call}
use Rattle.rules.specs.declared.model.Refusal.{Refusal}
use Rattle.laws.proofs.Logic.{Or, left, right, decide, both-no}
use Rattle.memory.specs.Memory.{site_of, readable, memory_form}
use Rattle.memory.proofs.LentLaws.{form_both}
use Rattle.site.specs.Entries.{After, step_on, holds_on, unheard_on}
use Rattle.site.proofs.AfterLaws.{need-not, refused-after}

module _ (s : Site) (f : form s ≡ false) where
  unformed-step : (d : Call) → step s d ≡ refused s Refusal.Form
  unfolding step
  unformed-step (Call.Elect c) = need-not _ _ _ _ _ f
  unformed-step (Call.Recover c) = need-not _ _ _ _ _ f
  unformed-step (Call.Collect c) = need-not _ _ _ _ _ f
  unformed-step (Call.Ready c) = need-not _ _ _ _ _ f
  unformed-step (Call.Offer c l r) = need-not _ _ _ _ _ f
  unformed-step (Call.Propose c) = need-not _ _ _ _ _ f
  unformed-step (Call.Agree c) = need-not _ _ _ _ _ f
  unformed-step (Call.Finish c) = need-not _ _ _ _ _ f
  unformed-step (Call.Heard c) = need-not _ _ _ _ _ f
  unformed-step (Call.Trim c k) = need-not _ _ _ _ _ f
  unformed-step (Call.Stop c) = need-not _ _ _ _ _ f
  unformed-step (Call.Return c) = need-not _ _ _ _ _ f
  unformed-step (Call.Timeout c) = need-not _ _ _ _ _ f
  unformed-step (Call.Lose a b) = need-not _ _ _ _ _ f
  unformed-step (Call.Repeat a b) = need-not _ _ _ _ _ f
  unformed-step (Call.Deliver a b) = need-not _ _ _ _ _ f

  unformed-holds : (c k l r : ℕ) → holds s c k l r ≡ Answer.Refused Refusal.Form
  unfolding holds
  unformed-holds c k l r = need-not _ _ _ _ _ f

  unformed-unheard : (c : ℕ) → unheard s c ≡ Err Refusal.Form
  unfolding unheard
  unformed-unheard c = need-not _ _ _ _ _ f

module _ (xs ls : List ℕ) (f : memory_form xs ls ≡ false) where
  -- the words cannot be read, or the site that they hold is not by form
  why : Or (readable xs ls ≡ false) ((readable xs ls ≡ true) × (form (site_of xs ls) ≡ false))
  why = go (decide (readable xs ls)) (decide (form (site_of xs ls)))
    where
      go : Or (readable xs ls ≡ true) (readable xs ls ≡ false)
          → Or (form (site_of xs ls) ≡ true) (form (site_of xs ls) ≡ false)
          → Or (readable xs ls ≡ false) ((readable xs ls ≡ true) × (form (site_of xs ls) ≡ false))
      go (left r) (left s) = absurd (both-no (form_both xs ls r s) f)
      go (left r) (right s) = right (r, s)
      go (right r) s = left r

  -- so what the words are asked is refused, where a site that is not by form refuses it
  unformed {ℓ} : {A : Type ℓ} (asked other : A) → (form (site_of xs ls) ≡ false → asked ≡ other)
      → cond (readable xs ls) asked other ≡ other
  unformed asked other refuses = go why
    where
      go : Or (readable xs ls ≡ false) ((readable xs ls ≡ true) × (form (site_of xs ls) ≡ false))
          → cond (readable xs ls) asked other ≡ other
      go (left r) = rw r refl
      go (right r) = rw r.0 (refuses r.1)

  pub unformed-after : (d : Call)
      → After (step_on xs ls d) xs ls xs ls (Answer.Refused Refusal.Form)
  unfolding step_on
  unformed-after d =
      refused-after xs ls Refusal.Form _
      (unformed _ _ (λ g. unformed-step (site_of xs ls) g d))

  pub unformed-held : (c k l r : ℕ) → holds_on xs ls c k l r ≡ Answer.Refused Refusal.Form
  unfolding holds_on
  unformed-held c k l r = unformed _ _ (λ g. unformed-holds (site_of xs ls) g c k l r)

  pub unformed-asked : (c : ℕ) → unheard_on xs ls c ≡ Err Refusal.Form
  unfolding unheard_on
  unformed-asked c = unformed _ _ (λ g. unformed-unheard (site_of xs ls) g c)
