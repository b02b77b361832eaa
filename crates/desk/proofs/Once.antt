-- Nothing else could satisfy the statements.
use Rattle.std.proofs.Common.{◌≡◌, ℕ, List, sym, refl, ap, ◌∙◌, subst, arith}
use Rattle.rules.specs.declared.model.Answer.{Answer}
use Rattle.rules.specs.declared.model.Refusal.{Refusal}
use Rattle.memory.specs.Memory.{site_of}
use Rattle.site.specs.Entries.{After}
use Rattle.site.proofs.Once as engine
use Rattle.desk.specs.Sides.{Outcome, SideIs}
use Rattle.desk.specs.Desk.{chosen_of, leaves}
use Rattle.desk.specs.Offer.{offered_on, PairIs}
use Rattle.std.specs.Prelude.{⊤, Result, Ok, Err}
use Rattle.desk.specs.declared.answers.Why.{Why}

-- giving in and withdrawing
pub side-once : {o : Outcome} {us vs : List ℕ} {q r : Result ⊤ Why} → SideIs o us q → SideIs o vs r
    → (us ≡ vs) × (q ≡ r)
side-once i j = (i.words ∙ sym j.words, i.answer ∙ sym j.answer)

-- two results of one pairing: the same answer, desk and site, and where it was refused the same
-- words
pub record Same (us xs ls vs ys ms : List ℕ) (q r : Result ℕ Why) : Type 0 where
  pub answer : q ≡ r
  pub desk : us ≡ vs
  pub site : site_of xs ls ≡ site_of ys ms
  pub words : (why : Why) → q ≡ Err why → (xs ≡ ys) × (ls ≡ ms)

module _ (f : ℕ) (ws xs ls : List ℕ) where
  one_right : {g h : ℕ} → chosen_of f ws ≡ Ok g → chosen_of f ws ≡ Ok h → h ≡ g
  one_right p q = cc

  not-both : {g : ℕ} {why : Why} → chosen_of f ws ≡ Ok g
      → chosen_of f ws ≡ Err why → ⊥
  not-both p q = let z : ◌≡◌ {A = ℕ} 0 1 = cc in omega arith

  -- two results of the offer of the one right frame
  one-offer : {g h : ℕ} {ys ms zs ns : List ℕ} {a b : Answer} → chosen_of f ws ≡ Ok g
      → chosen_of f ws ≡ Ok h → After (offered_on xs ls f g) xs ls ys ms a
      → After (offered_on xs ls f h) xs ls zs ns b → engine.Same ys ms zs ns a b
  one-offer {zs = zs} {ns = ns} {b = b} p q l r =
      engine.once l
      (subst (λ k. After (offered_on xs ls f k) xs ls zs ns b) (one_right p q) r)

  -- one was accepted, the other refused
  not-one : {why : Refusal} → Answer.Done ≡ Answer.Refused why → ⊥
  not-one e = let z : ◌≡◌ {A = ℕ} 0 1 = cc in omega arith

  not-refused : {g : ℕ} {why : Why} → Ok g ≡ Err why → ⊥
  not-refused e = let z : ◌≡◌ {A = ℕ} 0 1 = cc in omega arith

  pub pair-once : {us vs ys ms zs ns : List ℕ} {q r : Result ℕ Why} → PairIs f ws xs ls us ys ms q
      → PairIs f ws xs ls vs zs ns r → Same us ys ms vs zs ns q r
  pair-once (PairIs.no-pair p) (PairIs.no-pair q) =
      record { answer = cc; desk = refl; site = refl; words = λ why e. (refl, refl) }
  pair-once (PairIs.no-pair p) (PairIs.kept q a) = absurd (not-both q p)
  pair-once (PairIs.no-pair p) (PairIs.accepted q a) = absurd (not-both q p)
  pair-once (PairIs.kept p a) (PairIs.no-pair q) = absurd (not-both p q)
  pair-once (PairIs.accepted p a) (PairIs.no-pair q) = absurd (not-both p q)
  pair-once (PairIs.kept p a) (PairIs.kept q b) =
      let s = one-offer p q a b in
      let e = s.answer in
      record { answer = cc; desk = refl; site = s.site; words = λ why e. s.words refl }
  pair-once (PairIs.kept p a) (PairIs.accepted q b) =
      absurd (not-one (sym (one-offer p q a b).answer))
  pair-once (PairIs.accepted p a) (PairIs.kept q b) =
      absurd (not-one (one-offer p q a b).answer)
  pair-once (PairIs.accepted {g = g} p a) (PairIs.accepted {g = h} q b) =
      let e : g ≡ h = sym (one_right p q) in
      record {
        answer = ap Ok e;
        desk = ap (λ k. leaves f k ws) e;
        site = (one-offer p q a b).site;
        words = λ why d. absurd (not-refused d);
      }
