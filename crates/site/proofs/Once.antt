-- Nothing else could satisfy the statements, and unused room is never read.
use Rattle.std.specs.Prelude.{Err}
use Prim.Native.Nat.{ℕ}
use mathlib.Core.Path.{◌≡◌, refl, sym, ap, ◌∙◌}
use mathlib.Core.Bool.{true, cond}
use mathlib.Core.List.{List}
use Rattle.rules.specs.Site.{Outcome}
use Rattle.rules.specs.Form.{form}
use Rattle.rules.specs.Step.{refused, step, holds}
use Rattle.rules.specs.Unheard.{unheard}
use Rattle.rules.specs.declared.model.Answer.{Answer}
use Rattle.rules.specs.declared.model.Call.{Call}
use Rattle.rules.specs.declared.model.Refusal.{Refusal}
use Rattle.laws.specs.Frames.{CallFits}
use Rattle.laws.proofs.FormKept.{step-keeps-form}
use Rattle.memory.specs.Memory.{site_of, readable, memory_form}
use Rattle.memory.proofs.LentLaws.{form-readable, form-site, form_both}
use Rattle.rules.specs.Answers.{is_refusal}
use Rattle.site.specs.Entries.{After, FormedStep, step_on, holds_on, unheard_on}

-- two results of one call have the same answer and the same site, and where it was refused the same
-- words
pub record Same (xs ls ys ms : List ℕ) (a b : Answer) : Type 0 where
  pub answer : a ≡ b
  pub site : site_of xs ls ≡ site_of ys ms
  pub words : is_refusal a ≡ true → (xs ≡ ys) × (ls ≡ ms)

pub once : {o : Outcome} {xs ls ys ms zs ns : List ℕ} {a b : Answer}
    → After o xs ls ys ms a → After o xs ls zs ns b → Same ys ms zs ns a b
once p q = record {
  answer = p.answer ∙ sym q.answer;
  site = p.site ∙ sym q.site;
  words = λ r.
      let k = p.kept r in
      let l = q.kept (ap is_refusal (q.answer ∙ sym p.answer) ∙ r) in
      (k.0 ∙ sym l.0, k.1 ∙ sym l.1);
}

-- two memories that hold the same site get the same answer and the same next site, whatever their
-- unused room holds
pub room-unread : (xs ls ys ms : List ℕ) (d : Call) → readable xs ls ≡ readable ys ms
    → site_of xs ls ≡ site_of ys ms → step_on xs ls d ≡ step_on ys ms d
unfolding step_on
room-unread xs ls ys ms d r e =
    λ t. cond (r t) (step (e t) d) (refused (e t) Refusal.Form)

pub room_unheld : (xs ls ys ms : List ℕ) (c k left right : ℕ) → readable xs ls ≡ readable ys ms
    → site_of xs ls ≡ site_of ys ms → holds_on xs ls c k left right ≡ holds_on ys ms c k left right
unfolding holds_on
room_unheld xs ls ys ms c k left right r e =
    λ t. cond (r t) (holds (e t) c k left right) (Answer.Refused Refusal.Form)

pub room-unasked : (xs ls ys ms : List ℕ) (c : ℕ) → readable xs ls ≡ readable ys ms
    → site_of xs ls ≡ site_of ys ms → unheard_on xs ls c ≡ unheard_on ys ms c
unfolding unheard_on
room-unasked xs ls ys ms c r e =
    λ t. cond (r t) (unheard (e t) c) (Err Refusal.Form)

-- a call on words by form leaves words by form
pub form-kept : {xs ls ys ms : List ℕ} {a : Answer} (d : Call) → CallFits d
    → memory_form xs ls ≡ true
    → After (step (site_of xs ls) d) xs ls ys ms a → memory_form ys ms ≡ true
form-kept {xs} {ls} {ys} {ms} d h f after =
    form_both ys ms (after.readable (form-readable xs ls f))
    (ap form after.site ∙ step-keeps-form (site_of xs ls) d h (form-site xs ls f))

-- the public call is the inner one where the words are by form ..
pub step-formed : (xs ls ys ms : List ℕ) (d : Call) (a : Answer) → memory_form xs ls ≡ true
    → After (step (site_of xs ls) d) xs ls ys ms a → After (step_on xs ls d) xs ls ys ms a
unfolding step_on
step-formed xs ls ys ms d a f after = rw (form-readable xs ls f) after

-- .. and the inner call leaves words by form
pub formed : {xs ls ys ms : List ℕ} {a : Answer} (d : Call) → CallFits d → memory_form xs ls ≡ true
    → After (step (site_of xs ls) d) xs ls ys ms a → FormedStep d xs ls ys ms a
formed d h f after = record { after = after; form = form-kept d h f after }

pub held-formed : (xs ls : List ℕ) (c k left right : ℕ) → memory_form xs ls ≡ true
    → holds_on xs ls c k left right ≡ holds (site_of xs ls) c k left right
unfolding holds_on
held-formed xs ls c k left right f = rw (form-readable xs ls f) refl

pub asked-formed : (xs ls : List ℕ) (c : ℕ) → memory_form xs ls ≡ true
    → unheard_on xs ls c ≡ unheard (site_of xs ls) c
unfolding unheard_on
asked-formed xs ls c f = rw (form-readable xs ls f) refl
