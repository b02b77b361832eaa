-- Nothing else could satisfy the statement, unused room is never read; and what comes after the
-- step does not see it, over lent words.
use Prim.Native.Nat.{ℕ}
use mathlib.Core.Path.{◌≡◌, refl, sym, ap, ◌∙◌, subst}
use mathlib.Core.Bool.{true, false, cond}
use mathlib.Core.List.{List, ◌∷◌}
use Rattle.rules.specs.Sizes.{even}
use Rattle.rules.specs.Site.{Site, Outcome}
use Rattle.rules.specs.Step.{refused, did, step, run}
use Rattle.rules.specs.declared.model.Answer.{Answer}
use Rattle.rules.specs.declared.model.Call.{Call}
use Rattle.rules.specs.declared.model.Refusal.{Refusal}
use Rattle.laws.specs.Frames.{CallFits}
use Rattle.memory.specs.Memory.{site_of, readable, memory_form}
use Rattle.memory.proofs.LentLaws.{form-readable, form-site}
use Rattle.site.specs.Entries.{After, step_on}
use Rattle.site.proofs.Once.{Same, once}
use Rattle.rest.specs.Rest.{rested, rest}
use Rattle.rest.specs.Rests.{AllFit, sees_links, SameStore, Unseen}
use Rattle.rest.proofs.Rests.{rests}
use Rattle.rested.specs.Rested.{rest_on, RanOn, began, stepped, UnseenOn}

-- two results of the step on the same words
pub rest-once : {xs ls ys ms zs ns : List ℕ} {a b : Answer} → After (rest_on xs ls) xs ls ys ms a
    → After (rest_on xs ls) xs ls zs ns b → Same ys ms zs ns a b
rest-once p q = once p q

-- two memories that hold the same site
pub room-unread : (xs ls ys ms : List ℕ) → readable xs ls ≡ readable ys ms
    → site_of xs ls ≡ site_of ys ms → rest_on xs ls ≡ rest_on ys ms
unfolding rest_on
room-unread xs ls ys ms r e = λ t. cond (r t) (rest (e t)) (refused (e t) Refusal.Form)

-- ---- runs over lent words are runs of the site

step-on : (xs ls : List ℕ) (d : Call) → readable xs ls ≡ true
    → step_on xs ls d ≡ step (site_of xs ls) d
unfolding step_on
step-on xs ls d r = rw r refl

record Runs (xs ls : List ℕ) (ds : List Call) (ys ms : List ℕ) : Type 0 where
  site : site_of ys ms ≡ run (site_of xs ls) ds
  readable : readable ys ms ≡ true

runs : {xs ls ys ms : List ℕ} {ds : List Call} → readable xs ls ≡ true → RanOn xs ls ds ys ms
    → Runs xs ls ds ys ms
unfolding run
runs r began = record { site = refl; readable = r }
runs {xs} {ls} {ds = d ∷ ds} r (stepped {ys = ys} {ms = ms} d' h after) =
    let was = runs r h in record {
      site = after.site ∙ ap (λ (o : Outcome). o.next) (step-on ys ms d was.readable)
          ∙ ap (λ (s : Site). (step s d).next) was.site;
      readable = after.readable was.readable;
    }

rest-on : (xs ls : List ℕ) → memory_form xs ls ≡ true → even (site_of xs ls).epoch ≡ false
    → rest_on xs ls ≡ did (rested (site_of xs ls))
unfolding rest_on
rest-on xs ls f odd =
    rw (form-readable xs ls f) (rests.done (site_of xs ls) (form-site xs ls f) odd).0

module _ {xs ls ys ms us vs us' vs' : List ℕ} {ds : List Call} {a : Answer}
    (f : memory_form xs ls ≡ true) (odd : even (site_of xs ls).epoch ≡ false) (fits : AllFit ds)
    (after : After (rest_on xs ls) xs ls ys ms a) (p : RanOn xs ls ds us vs)
    (q : RanOn ys ms ds us' vs') where
  abbrev s : Site
  s = site_of xs ls

  one : Runs xs ls ds us vs
  one = runs (form-readable xs ls f) p

  other : Runs ys ms ds us' vs'
  other = runs (after.readable (form-readable xs ls f)) q

  -- the words put at rest hold the site put at rest
  at_rest : site_of us' vs' ≡ run (rested s) ds
  at_rest =
      other.site
      ∙ ap (λ (t : Site). run t ds)
      (after.site ∙ ap (λ (o : Outcome). o.next) (rest-on xs ls f odd))

  model : Unseen s ds
  model = rests.unseen s (form-site xs ls f) odd ds fits

  store : SameStore (site_of us vs) (site_of us' vs')
  store =
      subst (λ (t : Site). SameStore t (site_of us' vs')) (sym one.site)
      (subst (SameStore (run s ds)) (sym at_rest) model.store)

  answers : (d : Call) → CallFits d → ((site_of us vs).epoch ≡ s.epoch → sees_links d ≡ false)
      → (step_on us vs d).answer ≡ (step_on us' vs' d).answer
  answers d h e =
      ap (λ (o : Outcome). o.answer) (step-on us vs d one.readable)
      ∙ ap (λ (t : Site). (step t d).answer) one.site
      ∙ (model.call d h (λ g. e (ap (λ (t : Site). t.epoch) one.site ∙ g))).answer
      ∙ ap (λ (t : Site). (step t d).answer) (sym at_rest)
      ∙ ap (λ (o : Outcome). o.answer) (sym (step-on us' vs' d other.readable))

pub unseen-on : UnseenOn
unseen-on = record {
  unseen = λ f odd fits after p q.
      (store f odd fits after p q, answers f odd fits after p q);
}
