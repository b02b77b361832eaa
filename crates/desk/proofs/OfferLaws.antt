-- The engine's part of a pairing: the offer to the leader.
use Rattle.std.proofs.Common.{◌≡◌, ℕ, Bool, true, false, not, List, [], ◌∷◌, sym, refl, ap, ◌∙◌}
use Rattle.std.proofs.Common.{subst, eq-eqb, ne_eqb}
use Rattle.rules.specs.Box.{own, turn_of}
use Rattle.rules.specs.Form.{form}
use Rattle.rules.specs.Needs.{Need, ruled}
use Rattle.rules.specs.Pick.{pick}
use Rattle.rules.specs.Site.{Site, Outcome, setting}
use Rattle.rules.specs.Step.{refused, by_answer, step}
use Rattle.rules.specs.Steps.{acted, offer}
use Rattle.rules.specs.Turns.{unless, settled}
use Rattle.rules.specs.declared.model.Act.{Act}
use Rattle.rules.specs.declared.model.Answer.{Answer}
use Rattle.rules.specs.declared.model.BoxState.{BoxState}
use Rattle.rules.specs.declared.model.Call.{Call}
use Rattle.rules.specs.declared.model.Refusal.{Refusal}
use Rattle.rules.specs.declared.model.Turn.{Turn}
use Rattle.rules.specs.declared.model.Verdict.{Verdict}
use Rattle.laws.proofs.Logic.{Or, left, right, decide, both-no, cond_elim}
use Rattle.wait.specs.Run.{leader_of}
use Rattle.memory.specs.Memory.{site_of, readable, memory_form}
use Rattle.memory.proofs.LentLaws.{form-readable, form-site, form_both}
use Rattle.site.specs.Entries.{After, FormedStep}
use Rattle.site.proofs.AfterLaws.{need-met, need-not, no_needs, refused-after}
use Rattle.desk.specs.Desk.{chosen_of, leaves}
use Rattle.desk.specs.Offer.{offered, offered_on, is_settled, answer_by, PairIs}
use Rattle.std.specs.Prelude.{⊤, Result, Ok, Err}
use Rattle.desk.specs.declared.answers.Why.{Why}

-- ---- an offer is never taken or discarded

verdict-settled : (b : BoxState) (p q : Bool) (why why' : Refusal) (t : Turn)
    → is_settled t.answer ≡ true
    → is_settled (settled b (unless p why (unless q why' Verdict.Go)) t).answer ≡ true
unfolding settled unless pick
verdict-settled b true true why why' t e = e
verdict-settled b true false why why' t e = refl
verdict-settled b false q why why' t e = refl

module _ (s : Site) where
  ruled-settled : (ks : List Need) (o : Outcome) → is_settled o.answer ≡ true
      → is_settled (ruled (refused s) ks o).answer ≡ true
  unfolding ruled
  ruled-settled [] o e = e
  ruled-settled (k ∷ ks) o e =
      cond_elim (λ (x : Outcome). is_settled x.answer ≡ true) k.met
      (λ y. ruled-settled ks o e) (λ n. refl)

  by-settled : (a : Answer) (base : Site) (c : ℕ) (t : Turn) (ms : List ℕ) → is_settled a ≡ true
      → is_settled (by_answer a s base c t ms).answer ≡ true
  unfolding by_answer
  by-settled Answer.Done base c t ms e = ruled-settled _ _ refl
  by-settled Answer.Taken base c t ms e = absurd (both-no refl (sym e))
  by-settled (Answer.Discarded why) base c t ms e = absurd (both-no refl (sym e))
  by-settled (Answer.Refused why) base c t ms e = refl

  turn-settled : (c f g : ℕ)
      → is_settled (turn_of (setting s c) (s.box c) (own (Act.Offer f g))).answer ≡ true
  unfolding acted offer
  turn-settled c f g = verdict-settled _ _ _ _ _ _ refl

  pub offer-settled : (c f g : ℕ) → is_settled (step s (Call.Offer c f g)).answer ≡ true
  unfolding step
  offer-settled c f g = ruled-settled _ _ (by-settled _ s c _ [] (turn-settled c f g))

pub step-settled : {c f g : ℕ} {xs ls ys ms : List ℕ} {a : Answer}
    → FormedStep (Call.Offer c f g) xs ls ys ms a → is_settled a ≡ true
step-settled {c} {f} {g} {xs} {ls} d =
    ap is_settled d.after.answer ∙ offer-settled (site_of xs ls) c f g

-- ---- the ways of `offer`

module _ (xs ls : List ℕ) (f g : ℕ) where
  pub offer-unformed : memory_form xs ls ≡ false
      → After (offered_on xs ls f g) xs ls xs ls (Answer.Refused Refusal.Form)
  unfolding offered_on offered
  offer-unformed n =
      refused-after xs ls Refusal.Form _
      (go (decide (readable xs ls)) (decide (form (site_of xs ls))))
    where
      go : Or (readable xs ls ≡ true) (readable xs ls ≡ false)
          → Or (form (site_of xs ls) ≡ true) (form (site_of xs ls) ≡ false)
          → offered_on xs ls f g ≡ refused (site_of xs ls) Refusal.Form
      go (left r) (left s) = absurd (both-no (form_both xs ls r s) n)
      go (left r) (right s) = rw r (need-not _ _ _ _ _ s)
      go (right r) s = rw r refl

  -- c is the leader that was found
  module _ (h : memory_form xs ls ≡ true) {c : ℕ} (found : c ≡ leader_of (site_of xs ls)) where
    here : offered_on xs ls f g ≡ offered (site_of xs ls) f g
    unfolding offered_on
    here = rw (form-readable xs ls h) refl

    pub offer-none : c ≡ 0
        → After (offered_on xs ls f g) xs ls xs ls (Answer.Refused Refusal.Condition)
    unfolding offered
    offer-none z =
        refused-after xs ls Refusal.Condition _
        (here ∙ need-met _ _ _ _ _ (form-site xs ls h)
        ∙ need-not _ _ _ _ _ (ap not (eq-eqb _ _ (sym found ∙ z))))

    pub offer-to : {ys ms : List ℕ} {a : Answer} → (c ≡ 0 → ⊥)
        → FormedStep (Call.Offer c f g) xs ls ys ms a → After (offered_on xs ls f g) xs ls ys ms a
    unfolding offered
    offer-to n d =
        let e : offered_on xs ls f g ≡ step (site_of xs ls) (Call.Offer c f g) =
        here ∙ need-met _ _ _ _ _ (form-site xs ls h)
        ∙ need-met _ _ _ _ _ (ap not (ne_eqb _ _ (λ z. n (found ∙ z)))) ∙ no_needs _ _
        ∙ ap (λ k. step (site_of xs ls) (Call.Offer k f g)) (sym found) in
        rw e d.after

-- ---- the ways of `offer_pair` and `pair`; o is what the offer came to

module _ {f g : ℕ} {ws xs ls ys ms : List ℕ} {o : Result ⊤ Refusal} (chosen : chosen_of f ws
    ≡ Ok g)
    (after : After (offered_on xs ls f g) xs ls ys ms (answer_by o)) where
  pub pair-accepted : {vs : List ℕ} → o ≡ Ok tt → vs ≡ leaves f g ws
      → PairIs f ws xs ls vs ys ms (Ok g)
  pair-accepted e l =
      rw l (PairIs.accepted chosen
      (subst (After (offered_on xs ls f g) xs ls ys ms) (ap answer_by e) after))

  pub pair-kept : {why : Refusal} → o ≡ Err why
      → PairIs f ws xs ls ws ys ms (Err (Why.Engine why))
  pair-kept e =
      PairIs.kept chosen (subst (After (offered_on xs ls f g) xs ls ys ms) (ap answer_by e) after)

pub pair-none : {f : ℕ} {ws xs ls : List ℕ} {r : Result ℕ Why} {why : Why} → r ≡ chosen_of f ws
    → r ≡ Err why → PairIs f ws xs ls ws xs ls (Err why)
pair-none e n = PairIs.no-pair (sym e ∙ n)
