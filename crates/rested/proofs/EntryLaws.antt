-- The step carried out in the words.
use Prim.Native.Nat.{ℕ, ◌%◌}
use mathlib.Core.Path.{◌≡◌, refl, sym, ap, ◌∙◌, subst}
use mathlib.Core.Bool.{true, false, cond}
use mathlib.Core.List.{List, []}
use borrow.Author.Tests.{eq-eqb, ne_eqb}
use Rattle.rules.specs.Sizes.{even}
use Rattle.rules.specs.Form.{form}
use Rattle.rules.specs.Step.{refused}
use Rattle.rules.specs.declared.model.Answer.{Answer}
use Rattle.rules.specs.declared.model.Refusal.{Refusal}
use Rattle.rules.specs.declared.model.Setting.{Setting}
use Rattle.laws.proofs.Logic.{Or, left, right, decide, both-no}
use Rattle.memory.specs.Memory.{site_of, readable, memory_form}
use Rattle.memory.specs.After.{setting_at, boxes_of, RowsPut, LinksPut}
use Rattle.memory.proofs.LentLaws.{form-readable, form-site, form_both}
use Rattle.site.specs.Entries.{After}
use Rattle.site.proofs.AfterLaws.{refused-after, changed-after}
use Rattle.rest.specs.Rest.{rested_box, rested, rest}
use Rattle.rest.proofs.Rests as Rests
use Rattle.rest.proofs.Rests.{rests}
use Rattle.rest.proofs.Deeds.{rest-form}
use Rattle.rested.specs.Rested.{rest_on, FormedRest}

-- the words that the step leaves are by form
made : {xs ls ys ms : List ℕ} {a : Answer} → memory_form xs ls ≡ true
    → After (rest (site_of xs ls)) xs ls ys ms a → FormedRest xs ls ys ms a
made {xs} {ls} {ys} {ms} f after = record {
  after = after;
  form = form_both ys ms (after.readable (form-readable xs ls f))
      (ap form after.site ∙ rest-form (site_of xs ls) (form-site xs ls f));
}

module _ {xs ls : List ℕ} {s : Setting} (f : memory_form xs ls ≡ true) (k : s
    ≡ setting_at xs 1) where
  -- the epoch is even
  pub not-due : s.epoch % 2 ≡ 0 → FormedRest xs ls xs ls (Answer.Refused Refusal.Condition)
  unfolding site_of
  not-due e =
      made f
      (refused-after xs ls Refusal.Condition _
      (rests.not-due (site_of xs ls) (form-site xs ls f)
      (eq-eqb _ 0 (sym (ap (λ (t : Setting). t.epoch % 2) k) ∙ e))))

  -- it is odd
  pub puts_at_rest : (s.epoch % 2 ≡ 0 → ⊥) → {ys ms : List ℕ}
      → RowsPut s (λ b. rested_box (boxes_of s xs b)) xs ys → LinksPut s (λ a b. []) ls ms
      → FormedRest xs ls ys ms Answer.Done
  unfolding site_of rested
  puts_at_rest ne {ys} {ms} rows links =
      made f
      (changed-after xs ls ys ms 1 _ _ _ Answer.Done
      (rests.done (site_of xs ls) (form-site xs ls f)
      (ne_eqb _ 0 (λ e. ne (ap (λ (t : Setting). t.epoch % 2) k ∙ e)))).0
      refl
      (subst (λ (t : Setting). RowsPut t (λ b. rested_box (boxes_of t xs b)) xs ys) k rows)
      (subst (λ (t : Setting). LinksPut t (λ a b. []) ls ms) k links))

-- the public step is the inner one where the words are by form, ..
pub rest-formed : {xs ls ys ms : List ℕ} {a : Answer} → memory_form xs ls ≡ true
    → After (rest (site_of xs ls)) xs ls ys ms a → After (rest_on xs ls) xs ls ys ms a
unfolding rest_on
rest-formed {xs} {ls} f after = rw (form-readable xs ls f) after

not-formed : (xs ls : List ℕ) → memory_form xs ls ≡ false → readable xs ls ≡ true
    → form (site_of xs ls) ≡ false
not-formed xs ls f r = go (decide (form (site_of xs ls)))
  where
    go : Or (form (site_of xs ls) ≡ true) (form (site_of xs ls) ≡ false)
        → form (site_of xs ls) ≡ false
    go (left g) = absurd (both-no (form_both xs ls r g) f)
    go (right g) = g

-- .. and words that are not by form are refused with 1
pub unformed-after : {xs ls : List ℕ} → memory_form xs ls ≡ false
    → After (rest_on xs ls) xs ls xs ls (Answer.Refused Refusal.Form)
unfolding rest_on
unformed-after {xs} {ls} f = refused-after xs ls Refusal.Form _ (go (decide (readable xs ls)))
  where
    go : Or (readable xs ls ≡ true) (readable xs ls ≡ false)
        → cond (readable xs ls) (rest (site_of xs ls)) (refused (site_of xs ls) Refusal.Form)
        ≡ refused (site_of xs ls) Refusal.Form
    go (left r) = rw r (rests.unformed (site_of xs ls) (not-formed xs ls f r))
    go (right r) = rw r refl
