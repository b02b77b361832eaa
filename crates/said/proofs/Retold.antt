-- Demand 3 of answers is demand 3 of what a function makes of them, if of the answers to holds
-- lines it takes only Done where it takes Done.
use Prim.Native.Nat.{ℕ}
use mathlib.Core.Path.{◌≡◌, refl, sym, ap, ◌∙◌, subst}
use mathlib.Core.List.{List, [], ◌∷◌}
use native.Mathlib.Omega.{arith}
use lib.ListN.{length}
use Rattle.rules.specs.declared.model.Answer.{Answer}
use Rattle.rules.specs.declared.model.Call.{Call}
use Rattle.rules.specs.declared.model.Refusal.{Refusal}
use Rattle.said.specs.Said.{called, held, calls, Talk, retold, At, latest, before, TrueAt}
use Rattle.said.specs.Demand3.{Demand3}
use Rattle.said.specs.Spoken.{Safe}
use Rattle.said.proofs.Past.{at_place}

module _ {B : Type 0} (f : Answer → B) where
  same_length : (h : Talk) → length (retold f h) ≡ length h
  same_length [] = refl
  same_length (called d a ∷ h) = omega (arith, same_length h)
  same_length (held b k l r a ∷ h) = omega (arith, same_length h)

  pub same-calls : (h : Talk) → calls (retold f h) ≡ calls h
  same-calls [] = refl
  same-calls (called d a ∷ h) = ap (λ (ds : List Call). d ∷ ds) (same-calls h)
  same-calls (held b k l r a ∷ h) = same-calls h

  -- a holds line as it was said
  was-held : (h : Talk) {i b k l r : ℕ} {m : B} → At (retold f h) i (held b k l r m)
      → (a : Answer) × (f a ≡ m) × At h i (held b k l r a)
  was-held (called d a ∷ h) (before q) = let t = was-held h q in (t.0, t.1, before t.2)
  was-held (held b k l r a ∷ h) (before q) = let t = was-held h q in (t.0, t.1, before t.2)
  was-held (held b k l r a ∷ h) latest = (a, refl, at_place (sym (same_length h)) latest)
  was-held [] q = elim q [ ]

  -- a call as it is retold
  is-called : (h : Talk) {i : ℕ} {d : Call} {a : Answer} → At h i (called d a)
      → At (retold f h) i (called d (f a))
  is-called (called d a ∷ h) latest = at_place (same_length h) latest
  is-called (called e c ∷ h) (before q) = before (is-called h q)
  is-called (held b k l r c ∷ h) (before q) = before (is-called h q)
  is-called [] q = elim q [ ]

  module _ {h : Talk} {now : ℕ → ℕ → ℕ → ℕ → Answer} {first : ℕ → ℕ}
      (held-done : (i b k l r : ℕ) (a : Answer) → At h i (held b k l r a) → f a ≡ f Answer.Done
      → a ≡ Answer.Done)
      (now-done : (b k l r : ℕ) → f (now b k l r) ≡ f Answer.Done → now b k l r ≡ Answer.Done)
      (s : Safe h now first) where
    was-true : {i b k l r : ℕ} → TrueAt (f Answer.Done) (retold f h) i b k l r
        → TrueAt Answer.Done h i b k l r
    was-true {i} {b} {k} {l} {r} q =
        let t = was-held h q in
        subst (λ (a : Answer). At h i (held b k l r a))
        (held-done i b k l r t.0 t.2 t.1) t.2

    pub retold-safely : Demand3 (f Answer.Done) (f (Answer.Refused Refusal.Untrue)) (retold f h)
        (λ b k l r. f (now b k l r)) first
    retold-safely = record {
      agreement = λ i j b d k l r l' r' p q.
          s.agreement i j b d k l r l' r' (was-true p) (was-true q);
      no_hole = λ i b k m l r p e g.
          let t = s.no_hole i b k m l r (was-true p) e g in (t.0, t.1, ap f t.2);
      between = λ i b j k m l r l' r' yes p e g.
          let t = s.between i b j k m l r l' r' (now-done b j l' r' yes) (was-true p) e g in
          (t.0, t.1, ap f t.2);
      kept = λ i b k l r p e. ap f (s.kept i b k l r (was-true p) e);
      dropped = λ i j b k l r m p q e not l' r'.
          let t = was-held h q in
          ap f (s.dropped i j b k l r t.0 (was-true p) t.2 e
          (λ (d : t.0 ≡ Answer.Done). not (sym t.1 ∙ ap f d)) l' r');
      lasting = λ i b k l r p.
          let t = s.lasting i b k l r (was-true p) in (t.0, t.1, t.2, t.3, ap f t.4);
      origin = λ i b k l r p.
          let t = s.origin i b k l r (was-true p) in
          (t.0, t.1, (t.2.0, is-called h t.2.1));
      offer-of = s.offer-of;
      offer-is = λ i b k l r p.
          let t = s.offer-is i b k l r (was-true p) in (t.0, is-called h t.1);
      offer-once = λ i j b d k m l r l' r' p q e.
          s.offer-once i j b d k m l r l' r' (was-true p) (was-true q) e;
    }
