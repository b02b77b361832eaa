-- What a true holds line says of the site, and what makes it true.
use Prim.Native.Nat.{ℕ}
use mathlib.Core.Path.{◌≡◌, refl, ap}
use mathlib.Core.Bool.{Bool, true, false, cond}
use borrow.Author.Tests.{leb-true, le-leb, eq-eqb}
use Rattle.rules.specs.Sizes.{left_of, right_of}
use Rattle.rules.specs.Answers.{is_refusal}
use Rattle.rules.specs.Box.{Box}
use Rattle.rules.specs.Site.{Site, is_box}
use Rattle.rules.specs.Form.{form}
use Rattle.rules.specs.Needs.{ruled}
use Rattle.rules.specs.Step.{agreed_as, holds}
use Rattle.rules.specs.declared.model.Answer.{Answer}
use Rattle.rules.specs.declared.model.Refusal.{Refusal}
use Rattle.laws.proofs.Logic.{Or, left, right, decide, true≠false, and4, and_both, eqb_yes}
use Rattle.safety.specs.Demand3.{Agreed, record_at}

-- the box keeps number k as agreed, with the frames l and r
pub record Told (x : Box) (k l r : ℕ) : Type 0 where
  pub agreed : Agreed x k
  pub left_is : left_of (record_at x k) ≡ l
  pub right_is : right_of (record_at x k) ≡ r

told : (x : Box) (k l r : ℕ) → agreed_as x k l r ≡ true → Told x k l r
unfolding agreed_as
told x k l r e = let p = and4 _ _ _ _ e in record {
  agreed = (
    leb-true x.head.kept.first k p.0,
    leb-true k x.head.kept.last p.1,
  );
  left_is = eqb_yes _ _ p.2;
  right_is = eqb_yes _ _ p.3;
}

told_so : (x : Box) (k l r : ℕ) → Told x k l r → agreed_as x k l r ≡ true
unfolding agreed_as
told_so x k l r t =
    and_both
    (and_both
    (and_both (le-leb x.head.kept.first k t.agreed.0)
    (le-leb k x.head.kept.last t.agreed.1))
    (eq-eqb _ _ t.left_is))
    (eq-eqb _ _ t.right_is)

-- ---- the line's three needs

abbrev answered : Bool → Bool → Bool → Answer
answered f b t =
    cond f
    (cond b (cond t Answer.Done (Answer.Refused Refusal.Untrue)) (Answer.Refused Refusal.Box))
    (Answer.Refused Refusal.Form)

needs_met : (f b t : Bool) → answered f b t ≡ Answer.Done → (b ≡ true) × (t ≡ true)
needs_met true true true e = (refl, refl)
needs_met true true false e = absurd (true≠false (ap is_refusal e))
needs_met true false t e = absurd (true≠false (ap is_refusal e))
needs_met false b t e = absurd (true≠false (ap is_refusal e))

not-refused : (f b t : Bool) → is_refusal (answered f b t) ≡ false → answered f b t ≡ Answer.Done
not-refused true true true e = refl
not-refused true true false e = absurd (true≠false e)
not-refused true false t e = absurd (true≠false e)
not-refused false b t e = absurd (true≠false e)

module _ (s : Site) (b k l r : ℕ) where
  -- a line is true or refused
  pub line-done : is_refusal (holds s b k l r) ≡ false → holds s b k l r ≡ Answer.Done
  unfolding holds ruled
  line-done e = not-refused (form s) (is_box s.n b) (agreed_as (s.box b) k l r) e

  pub line-says : holds s b k l r ≡ Answer.Done → (is_box s.n b ≡ true) × Told (s.box b) k l r
  unfolding holds ruled
  line-says e =
      let p = needs_met (form s) (is_box s.n b) (agreed_as (s.box b) k l r) e in
      (p.0, told _ k l r p.1)

  module _ (f : form s ≡ true) (is : is_box s.n b ≡ true) where
    pub line-true : Told (s.box b) k l r → holds s b k l r ≡ Answer.Done
    unfolding holds ruled
    line-true t = rw f (rw is (rw (told_so _ k l r t) refl))

    pub line_untrue : (Agreed (s.box b) k → ⊥) → holds s b k l r ≡ Answer.Refused Refusal.Untrue
    unfolding holds ruled
    line_untrue not = go (decide (agreed_as (s.box b) k l r))
      where
        go : Or (agreed_as (s.box b) k l r ≡ true) (agreed_as (s.box b) k l r ≡ false)
            → holds s b k l r ≡ Answer.Refused Refusal.Untrue
        go (left e) = absurd (not (told _ k l r e).agreed)
        go (right e) = rw f (rw is (rw e refl))
