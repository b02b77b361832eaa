-- Nothing else could satisfy the statements, unused room is never read, and words by form stay so.
use Prim.Native.Nat.{ℕ}
use mathlib.Core.Path.{◌≡◌, refl, sym, ap, ◌∙◌}
use mathlib.Core.Bool.{true, cond}
use mathlib.Core.List.{List}
use lib.ListN.{length}
use Rattle.rules.specs.Site.{Site}
use Rattle.rules.specs.Form.{form}
use Rattle.rules.specs.Step.{step}
use Rattle.rules.specs.declared.model.Refusal.{Refusal}
use Rattle.wait.specs.Run.{Outcome, ended, run_of}
use Rattle.std.specs.Prelude.{None}
use Rattle.wait.specs.declared.model.Run.{Run}
use Rattle.wait.proofs.RunForm.{run-form}
use Rattle.memory.specs.Memory.{past_site, past_links, site_of, readable, memory_form}
use Rattle.memory.proofs.LentLaws.{form-readable, form-site, form_both}
use Rattle.until.specs.Until.{none_used, RunAfter, run_on, next_of, next_on}

-- two results of one run have the same answer, the same site and the same words past it, and where
-- no step was used the same words
pub record Same (s : Site) (xs ls ys ms : List ℕ) (a b : Run) : Type 0 where
  pub answer : a ≡ b
  pub site : site_of xs ls ≡ site_of ys ms
  pub words : none_used a ≡ true → (xs ≡ ys) × (ls ≡ ms)
  pub past-site : past_site s.n s.J xs ≡ past_site s.n s.J ys
  pub past-links : past_links s.n s.J s.L ls ≡ past_links s.n s.J s.L ms
  pub site-words : length xs ≡ length ys
  pub links-words : length ls ≡ length ms

pub once : {o : Outcome} {xs ls ys ms zs ns : List ℕ} {a b : Run}
    → RunAfter o xs ls ys ms a → RunAfter o xs ls zs ns b → Same o.next ys ms zs ns a b
once p q = record {
  answer = p.answer ∙ sym q.answer;
  site = p.site ∙ sym q.site;
  words = λ r.
      let k = p.kept r in
      let l = q.kept (ap none_used (q.answer ∙ sym p.answer) ∙ r) in
      (k.0 ∙ sym l.0, k.1 ∙ sym l.1);
  past-site = p.past-site ∙ sym q.past-site;
  past-links = p.past-links ∙ sym q.past-links;
  site-words = p.site-words ∙ sym q.site-words;
  links-words = p.links-words ∙ sym q.links-words;
}

-- two memories that hold the same site get the same answer and the same next site, whatever their
-- unused room holds
pub room-unread : (xs ls ys ms : List ℕ) (steps : ℕ) → readable xs ls ≡ readable ys ms
    → site_of xs ls ≡ site_of ys ms → run_on xs ls steps ≡ run_on ys ms steps
unfolding run_on
room-unread xs ls ys ms steps r e =
    λ t. cond (r t) (run_of (e t) steps) (ended (e t) (Run.Refused Refusal.Form))

pub room-unasked : (xs ls ys ms : List ℕ) → readable xs ls ≡ readable ys ms
    → site_of xs ls ≡ site_of ys ms → next_on xs ls ≡ next_on ys ms
unfolding next_on
room-unasked xs ls ys ms r e = λ t. cond (r t) (next_of (e t)) None

-- a run on words by form leaves words by form
pub form-kept : {xs ls ys ms : List ℕ} {r : Run} (steps : ℕ) → memory_form xs ls ≡ true
    → RunAfter (run_on xs ls steps) xs ls ys ms r → memory_form ys ms ≡ true
unfolding run_on
form-kept {xs} {ls} {ys} {ms} steps f after =
    let here : run_on xs ls steps ≡ run_of (site_of xs ls) steps =
    rw (form-readable xs ls f) refl in
    form_both ys ms (after.readable (form-readable xs ls f))
    (ap form (after.site ∙ ap (λ (o : Outcome). o.next) here)
    ∙ run-form (site_of xs ls) steps (form-site xs ls f))
