-- What a call comes to on a site by form: its needs after form are a verdict, and then it is done.
use Prim.Native.Nat.{ℕ}
use mathlib.Core.Path.{◌≡◌, refl, ap, ◌∙◌}
use mathlib.Core.Bool.{Bool, true, false, not, cond}
use mathlib.Core.List.{List, [], ◌∷◌}
use native.Mathlib.Omega.{arith}
use lib.Dec.{eqb}
use lib.ListN.{length}
use Rattle.rules.specs.Box.{Letter, own, mail, turn_of}
use Rattle.rules.specs.Site.{Site, Outcome, is_box, is_link, popped, doubled}
use Rattle.rules.specs.Form.{form}
use Rattle.rules.specs.Needs.{Need, need, ruled}
use Rattle.rules.specs.Pick.{pick}
use Rattle.rules.specs.Turns.{unless}
use Rattle.rules.specs.Step.{refused, did, by_turn, at_box, at_link, acting, delivered, elect}
use Rattle.rules.specs.Step.{presented, step, agreed_as, holds}
use Rattle.rules.specs.declared.model.Act.{Act}
use Rattle.rules.specs.declared.model.Answer.{Answer}
use Rattle.rules.specs.declared.model.Call.{Call}
use Rattle.rules.specs.declared.model.Cause.{Cause}
use Rattle.rules.specs.declared.model.Refusal.{Refusal}
use Rattle.rules.specs.declared.model.Verdict.{Verdict}
use Rattle.memory.specs.Memory.{site_of, memory_form}
use Rattle.memory.specs.After.{setting_at, boxes_of}
use Rattle.memory.proofs.LentLaws.{form-site}
use Rattle.site.specs.Verdicts.{verdict_of}
use Rattle.rules.specs.Step.{elect_needs, lose_needs, repeat_needs}
use Rattle.site.specs.Calls.{presence_call, presence_needs, present_then, link_call}
use Rattle.site.specs.declared.mail.OnLink.{OnLink}
use Rattle.site.specs.declared.presence.Presence.{Presence}
use Rattle.site.proofs.AfterLaws.{no_needs, need-met, need-not}

-- ---- needs as a verdict

module _ {ℓ} {A : Type ℓ} (refuse : Refusal → A) (a : A) where
  -- one need, and what the others come to
  one-go : (b : Bool) (v : Verdict) (why : Refusal) (r : A) → (v ≡ Verdict.Go → r ≡ a)
      → unless b why v ≡ Verdict.Go → cond b r (refuse why) ≡ a
  unfolding unless pick
  one-go true v why r more e = more e
  one-go false v why r more e = let z : ◌≡◌ {A = ℕ} 0 1 = cc in absurd (omega arith)

  pub verdict-go : (ks : List Need) → verdict_of ks ≡ Verdict.Go → ruled refuse ks a ≡ a
  unfolding ruled verdict_of
  verdict-go [] e = refl
  verdict-go (k ∷ ks) e = one-go k.met (verdict_of ks) k.why _ (verdict-go ks) e

  one_refuse : (b : Bool) (v : Verdict) (first why : Refusal) (r : A)
      → (v ≡ Verdict.Refuse why → r ≡ refuse why)
      → unless b first v ≡ Verdict.Refuse why → cond b r (refuse first) ≡ refuse why
  unfolding unless pick
  one_refuse true v first why r more e = more e
  one_refuse false v first why r more e = let d : first ≡ why = cc in ap refuse d

  pub verdict_refuse : (ks : List Need) (why : Refusal) → verdict_of ks ≡ Verdict.Refuse why
      → ruled refuse ks a ≡ refuse why
  unfolding ruled verdict_of
  verdict_refuse [] why e = let z : ◌≡◌ {A = ℕ} 0 1 = cc in absurd (omega arith)
  verdict_refuse (k ∷ ks) why e =
      one_refuse k.met (verdict_of ks) k.why why _ (verdict_refuse ks why) e

one_discard : (b : Bool) (v : Verdict) (first : Refusal) (why : Cause)
    → (v ≡ Verdict.Discard why → ⊥)
    → unless b first v ≡ Verdict.Discard why → ⊥
unfolding unless pick
one_discard true v first why more e = more e
one_discard false v first why more e = let z : ◌≡◌ {A = ℕ} 0 1 = cc in omega arith

pub verdict_discard : (ks : List Need) (why : Cause) → verdict_of ks ≡ Verdict.Discard why → ⊥
unfolding verdict_of
verdict_discard [] why e = let z : ◌≡◌ {A = ℕ} 0 1 = cc in omega arith
verdict_discard (k ∷ ks) why e = one_discard k.met (verdict_of ks) k.why why
    (verdict_discard ks why) e

-- ---- each call, after form

module _ (xs ls : List ℕ) (f : memory_form xs ls ≡ true) where
  abbrev s : Site
  s = site_of xs ls

  -- ---- a box number, the link of two

  module _ (c : ℕ) (ks : List Need) (o : Outcome) where
    at-box : is_box s.n c ≡ true → ruled (refused s) (at_box s c ks) o ≡ ruled (refused s) ks o
    at-box h = need-met _ _ _ _ _ (form-site xs ls f) ∙ need-met _ _ _ _ _ h

    no-box : is_box s.n c ≡ false → ruled (refused s) (at_box s c ks) o ≡ refused s Refusal.Box
    no-box h = need-met _ _ _ _ _ (form-site xs ls f) ∙ need-not _ _ _ _ _ h

  module _ (a b : ℕ) (ks : List Need) (o : Outcome) where
    at-link : is_link s.n a b ≡ true
        → ruled (refused s) (at_link s a b ks) o ≡ ruled (refused s) ks o
    at-link h = need-met _ _ _ _ _ (form-site xs ls f) ∙ need-met _ _ _ _ _ h

    no-link : is_link s.n a b ≡ false
        → ruled (refused s) (at_link s a b ks) o ≡ refused s Refusal.Box
    no-link h = need-met _ _ _ _ _ (form-site xs ls f) ∙ need-not _ _ _ _ _ h

  -- ---- each call: at another number than a box's, and at a box's

  module _ (c : ℕ) where
    pub acting-no-box : (a : Act) → is_box s.n c ≡ false → acting s c a ≡ refused s Refusal.Box
    acting-no-box a h = no-box c [] _ h

    pub acting-turn : (a : Act) → is_box s.n c ≡ true
        → acting s c a ≡ by_turn s s c (turn_of (setting_at xs c) (boxes_of (setting_at xs c) xs c)
        (own a)) []
    unfolding site_of
    acting-turn a h = at-box c [] _ h ∙ no_needs _ _

    pub elect-no-box : is_box s.n c ≡ false → step s (Call.Elect c) ≡ refused s Refusal.Box
    unfolding step
    elect-no-box h = no-box c _ _ h

    pub elect-needs : is_box s.n c ≡ true
        → step s (Call.Elect c) ≡ ruled (refused s) (elect_needs (setting_at xs c))
        (did (elect s c))
    unfolding site_of step
    elect-needs h = at-box c _ _ h

    pub presence_no_box : (what : Presence) → is_box s.n c ≡ false
        → step s (presence_call what c) ≡ refused s Refusal.Box
    unfolding step
    presence_no_box Presence.Stop h = no-box c _ _ h
    presence_no_box Presence.Return h = no-box c _ _ h
    presence_no_box Presence.Timeout h = no-box c _ _ h

    pub presence-needs : (what : Presence) → is_box s.n c ≡ true
        → step s (presence_call what c)
        ≡ ruled (refused s) (presence_needs what (setting_at xs c))
        (did (presented s (present_then what (setting_at xs c))))
    unfolding site_of step
    presence-needs Presence.Stop h = at-box c _ _ h
    presence-needs Presence.Return h = at-box c _ _ h
    presence-needs Presence.Timeout h = at-box c _ _ h

    pub holds-no-box : (k left right : ℕ) → is_box s.n c ≡ false
        → holds s c k left right ≡ Answer.Refused Refusal.Box
    unfolding holds
    holds-no-box k left right h = need-met _ _ _ _ _ (form-site xs ls f) ∙ need-not _ _ _ _ _ h

    pub holds-true : (k left right : ℕ) → is_box s.n c ≡ true
        → agreed_as (s.box c) k left right ≡ true → holds s c k left right ≡ Answer.Done
    unfolding holds
    holds-true k left right h e =
        need-met _ _ _ _ _ (form-site xs ls f) ∙ need-met _ _ _ _ _ h ∙ need-met _ _ _ _ _ e
        ∙ no_needs _ _

    pub holds_untrue : (k left right : ℕ) → is_box s.n c ≡ true
        → agreed_as (s.box c) k left right ≡ false
        → holds s c k left right ≡ Answer.Refused Refusal.Untrue
    unfolding holds
    holds_untrue k left right h e =
        need-met _ _ _ _ _ (form-site xs ls f) ∙ need-met _ _ _ _ _ h ∙ need-not _ _ _ _ _ e

  module _ (a b : ℕ) where
    pub no-link-call : (what : OnLink) → is_link s.n a b ≡ false
        → step s (link_call what a b) ≡ refused s Refusal.Box
    unfolding step
    no-link-call OnLink.Deliver h = no-link a b [] _ h
    no-link-call OnLink.Lose h = no-link a b _ _ h
    no-link-call OnLink.Repeat h = no-link a b _ _ h

    module _ (h : is_link s.n a b ≡ true) where
      pub lose-needs : step s (Call.Lose a b)
          ≡ ruled (refused s) (lose_needs (s.link a b)) (did (popped s a b))
      unfolding step
      lose-needs = at-link a b _ _ h

      pub repeat-needs : step s (Call.Repeat a b)
          ≡ ruled (refused s) (repeat_needs s.L (s.link a b)) (did (doubled s a b))
      unfolding step
      repeat-needs = at-link a b _ _ h

      deliver-head : step s (Call.Deliver a b) ≡ delivered s a b (s.link a b)
      unfolding step
      deliver-head = at-link a b [] _ h ∙ no_needs _ _

      -- by its head
      pub deliver-turn : (y : Letter) (ys : List Letter) → s.link a b ≡ y ∷ ys
          → step s (Call.Deliver a b)
          ≡ by_turn s (popped s a b) b (turn_of (setting_at xs b) (boxes_of (setting_at xs b) xs b)
          (mail a y)) y.records
      unfolding site_of delivered
      deliver-turn y ys head = deliver-head ∙ ap (delivered s a b) head

      pub empty-call : (what : OnLink) → length (s.link a b) ≡ 0
          → step s (link_call what a b) ≡ refused s Refusal.Condition
      unfolding delivered
      empty-call OnLink.Deliver z = deliver-head ∙ none (s.link a b) z
        where
          none : (ys : List Letter) → length ys ≡ 0
              → delivered s a b ys ≡ refused s Refusal.Condition
          none [] e = refl
          none (y ∷ ys) e = absurd (omega (arith, e))
      empty-call OnLink.Lose z =
          lose-needs ∙ need-not _ _ _ _ _ (ap (λ (k : ℕ). not (eqb k 0)) z)
      empty-call OnLink.Repeat z =
          repeat-needs ∙ need-not _ _ _ _ _ (ap (λ (k : ℕ). not (eqb k 0)) z)
