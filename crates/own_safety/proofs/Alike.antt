-- Demand 3 speaks only of boxes of which a holds line was true: of these alone it needs to be known
-- what they answer now.
use Prim.Native.Nat.{ℕ, ◌≤◌}
use mathlib.Core.Path.{◌≡◌, sym, ◌∙◌, subst}
use Rattle.rules.specs.declared.model.Answer.{Answer}
use Rattle.said.specs.Said.{Talk, TrueAt}
use Rattle.said.specs.Spoken.{Safe}

module _ {h : Talk} {now now' : ℕ → ℕ → ℕ → ℕ → Answer} {first first' : ℕ → ℕ}
    (asks : (i b k l r : ℕ) → TrueAt Answer.Done h i b k l r
    → (m left right : ℕ) → now' b m left right ≡ now b m left right)
    (keeps : (i b k l r : ℕ) → TrueAt Answer.Done h i b k l r → first' b ≡ first b)
    (s : Safe h now first) where
  -- a number that is kept
  from : {i b k l r : ℕ} → TrueAt Answer.Done h i b k l r → (m : ℕ) → first' b ≤ m → first b ≤ m
  from q m e = subst (λ (f : ℕ). f ≤ m) (keeps _ _ _ _ _ q) e

  pub alike : Safe h now' first'
  alike = record {
    agreement = s.agreement;
    no_hole = λ i b k m l r q e g.
        let t = s.no_hole i b k m l r q (from q k e) g in
        (t.0, t.1, asks i b m l r q k _ _ ∙ t.2);
    between = λ i b j k m l r l' r' yes q e g.
        let t = s.between i b j k m l r l' r' (sym (asks i b m l r q j l' r') ∙ yes) q e g in
        (t.0, t.1, asks i b m l r q k _ _ ∙ t.2);
    kept = λ i b k l r q e. asks i b k l r q k l r ∙ s.kept i b k l r q (from q k e);
    dropped = λ i j b k l r a q u e not l' r'.
        asks i b k l r q k l' r' ∙ s.dropped i j b k l r a q u e not l' r';
    lasting = λ i b k l r q.
        let t = s.lasting i b k l r q in
        (t.0, t.1, t.2, t.3, asks i b k l r q t.0 _ _ ∙ t.4);
    origin = s.origin;
    offer-of = s.offer-of;
    offer-is = s.offer-is;
    offer-once = s.offer-once;
  }
