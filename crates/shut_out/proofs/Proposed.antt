-- A Propose makes no holds line true, whatever the site.
use Prim.Native.Nat.{ℕ}
use mathlib.Core.Path.{◌≡◌, refl, sym, ap, ◌∙◌}
use mathlib.Core.Bool.{true}
use mathlib.Core.List.{[], ◌∷◌}
use native.Mathlib.Omega.{arith}
use lib.Dec.{leb, eqb}
use borrow.Author.Tests.{leb-true}
use Rattle.rules.specs.Sizes.{left_of, right_of}
use Rattle.rules.specs.Answers.{is_refusal}
use Rattle.rules.specs.Steps.{propose, started, acted}
use Rattle.rules.specs.Box.{Box, own, turn_of, turned}
use Rattle.rules.specs.Site.{Site, is_box, setting, upd}
use Rattle.rules.specs.Form.{form}
use Rattle.rules.specs.Needs.{need, ruled}
use Rattle.rules.specs.Step.{at_box, step, agreed_as, holds}
use Rattle.laws.proofs.Types.{Act, Answer, Call, Refusal, Setting, Turn}
use Rattle.laws.proofs.Logic.{Passed, In, and_yes, and_both, true≠false}
use Rattle.laws.proofs.FormLaws.{Formed, form-says, is-box}
use Rattle.laws.proofs.FrameLaws.{upd-all}
use Rattle.laws.proofs.View.{store, shaped}
use Rattle.laws.proofs.Growth.{Grows, grow_turn, grows-refl}
use Rattle.laws.proofs.StepLaws.{mets, by_needs, by-verdict, by-ruled, by-turn}

-- box y has grown from x, with first and last where they were
pub record SameRange (x y : Box) : Type 0 where
  pub first : y.head.kept.first ≡ x.head.kept.first
  pub last : y.head.kept.last ≡ x.head.kept.last
  pub grown : Grows (store x) (store y)

-- .. and so has agreed nothing more
agreed-before : {x y : Box} → SameRange x y → (k l r : ℕ) → agreed_as y k l r ≡ true
    → agreed_as x k l r ≡ true
unfolding agreed_as
agreed-before {x} {y} g k l r e =
    let p = and_yes _ _ e in
    let q = and_yes _ _ p.0 in
    let t = and_yes _ _ q.0 in
    let above = leb-true y.head.kept.first k t.0 in
    let within = leb-true k y.head.kept.last t.1 in
    let same = g.grown.same k above (omega (arith, within, g.last)) in
    and_both
    (and_both
    (and_both (ap (λ f. leb f k) (sym g.first) ∙ t.0)
    (ap (λ m. leb k m) (sym g.last) ∙ t.1))
    (ap (λ v. eqb (left_of v) l) (sym same) ∙ q.1))
    (ap (λ v. eqb (right_of v) r) (sym same) ∙ p.1)

-- the leader's own turn
ranges-stay : (s : Setting) (x : Box)
    → ((turn_of s x (own Act.Propose)).next.kept.first ≡ x.head.kept.first)
    × ((turn_of s x (own Act.Propose)).next.kept.last ≡ x.head.kept.last)
unfolding acted propose started
ranges-stay s x =
    by-verdict
    (λ (t : Turn). (t.next.kept.first ≡ x.head.kept.first)
    × (t.next.kept.last ≡ x.head.kept.last))
    _ _ _ (λ a. (refl, refl)) (λ go. (refl, refl))

-- what a true holds line has passed
holds-says : (s : Site) (b k l r : ℕ) → holds s b k l r ≡ Answer.Done
    → Passed (mets (at_box s b (need Refusal.Untrue (agreed_as (s.box b) k l r) ∷ [])))
unfolding holds
holds-says s b k l r =
    by_needs
    (λ (a : Answer). a ≡ Answer.Done
    → Passed (mets (at_box s b (need Refusal.Untrue (agreed_as (s.box b) k l r) ∷ []))))
    Answer.Refused _ _ (λ why e. absurd (true≠false (ap is_refusal e))) (λ p e. p)

holds-made : (s : Site) (b k l r : ℕ) → form s ≡ true → is_box s.n b ≡ true
    → agreed_as (s.box b) k l r ≡ true → holds s b k l r ≡ Answer.Done
unfolding holds ruled
holds-made s b k l r f i g = rw f (rw i (rw g refl))

-- every box after the leader's turn
ranges : (s : Site) (c : ℕ) → Formed s → In c s.n → (b : ℕ)
    → SameRange (s.box b)
    (upd s.box c (turned (s.box c) (turn_of (setting s c) (s.box c) (own Act.Propose)) []) b)
ranges s c f c_in =
    upd-all (λ b y. SameRange (s.box b) y) s.box c
    (let e = ranges-stay (setting s c) (s.box c) in
    record {
      first = e.0;
      last = e.1;
      grown = grow_turn (setting s c) (s.box c) (shaped (f.boxes c c_in)) (own Act.Propose);
    })
    (λ b. record { first = refl; last = refl; grown = grows-refl (store (s.box b)) })

module _ (s : Site) (c b k l r : ℕ) where
  abbrev Before : Site → Type 0
  Before t = holds t b k l r ≡ Answer.Done → holds s b k l r ≡ Answer.Done

  pub proposed : Before (step s (Call.Propose c)).next
  unfolding step
  proposed =
      by-ruled Before s _ _ (λ h. h)
      (λ p. by-turn Before s s c _ _ (λ h. h) (λ h. h)
      (λ room h. let q = holds-says _ b k l r h in
      holds-made s b k l r p.0 q.1.0
      (agreed-before (ranges s c (form-says p.0) (is-box p.1.0) b) k l r q.1.1.0)))
