-- What is left to do, before a turn and after it.
use Prim.Native.Nat.{ℕ, ◌+◌, ◌*◌, ◌≤◌, ◌<◌}
use mathlib.Core.Path.{◌≡◌, refl, ap, ◌∙◌}
use mathlib.Core.Bool.{Bool, true, false, not, ◌&&◌, cond}
use mathlib.Core.List.{List, [], ◌∷◌}
use native.Mathlib.Nat.{mul-le-mul_right}
use native.Mathlib.Omega.{arith}
use lib.Dec.{ltb}
use borrow.Author.Tests.{ne_eqb, lt-ltb, ltb-true}
use Rattle.rules.specs.Sizes.{most_boxes}
use Rattle.rules.specs.Sets.{has}
use Rattle.rules.specs.Every.{tally}
use Rattle.rules.specs.Box.{Box, letter_of}
use Rattle.rules.specs.Site.{Site}
use Rattle.laws.proofs.Types.{Out, Phase}
use Rattle.laws.proofs.Logic.{Or, left, right, In, decide, and_yes, and_both}
use Rattle.laws.proofs.SetLaws.{has-without, without_in}
use Rattle.laws.proofs.StepLaws.{changed}
use Rattle.laws.proofs.View.{Links}
use Rattle.wait.proofs.Stages.{Time, Other, pn, others#, load, weight, cost, round}
use Rattle.wait.proofs.Stages.{ahead_of, sent_to}
use Rattle.wait.proofs.Going.{sum, is_other, under-way}
use Rattle.wait.proofs.Sums.{sum-le, sum_moves, sum-few, tally-up, tally-less}
use Rattle.wait.proofs.Sums.{tally-without}

-- the fewer have promised more, the less
ahead-up : (k r r' : ℕ) (p : Phase) → r' ≤ r → ahead_of k r' p ≤ ahead_of k r p
unfolding ahead_of
ahead-up k r r' Phase.Election h = omega arith
ahead-up k r r' Phase.SendCollect h = omega (arith, mul-le-mul_right (round k) h)
ahead-up k r r' Phase.Collect h = omega (arith, mul-le-mul_right (round k) h)
ahead-up k r r' Phase.Begin h = omega arith
ahead-up k r r' Phase.Commit h = omega arith
ahead-up k r r' Phase.Lease h = omega arith
ahead-up k r r' Phase.LeaseDone h = omega arith

pub ahead-le : (k r r' : ℕ) (p p' : Phase) → p' ≡ p → r' ≤ r
    → ahead_of k r' p' ≤ ahead_of k r p
ahead-le k r r' p p' e h = rw e (ahead-up k r r' p h)

-- another round begins, one box being passed
pub ahead-again : (k r r' : ℕ) (p p' : Phase) → p ≡ Phase.Collect → p' ≡ Phase.SendCollect
    → r' < r → ahead_of k r' p' ≤ ahead_of k r p
unfolding ahead_of
ahead-again k r r' p p' e e' h = rw (e, e') (omega (arith, mul-le-mul_right (round k) h))

-- what is sent to a box is at most its part of the cost
pub sent-weight : ℕ → Out → ℕ
sent-weight k Out.Nothing = 0
sent-weight k (Out.To set m) = weight k m.kind

pub sent-cost : (k : ℕ) (out : Out) → k * sent-weight k out ≡ cost k out
unfolding sent-weight cost
sent-cost k Out.Nothing = omega arith
sent-cost k (Out.To set m) = refl

pub sent-load : (k : ℕ) (out : Out) (rs : List ℕ) (d : ℕ)
    → load k (sent_to out rs d) ≤ sent-weight k out
unfolding sent-weight load sent_to
sent-load k Out.Nothing rs d = omega arith
sent-load k (Out.To set m) rs d = go (has set d)
  where
    go : (t : Bool)
        → load k (cond t (letter_of m rs ∷ []) []) ≤ weight k m.kind
    go true = omega arith
    go false = omega arith

-- the mails between box c and box i
abbrev pub loads : ℕ → Links → ℕ → ℕ → ℕ
loads k link c i = load k (link c i) + load k (link i c)

module _ (s : Site) (c : ℕ) (time : Time s c) where
  pub small : {i : ℕ} → In i s.n → In i most_boxes
  small h = (h.0, omega (arith, h.1, time.sizes.few-boxes))

  pub is-other : (i : ℕ) → In i s.n → is_other s c i ≡ true → Other s c i
  is-other i h e = let p = without_in s.present c i (small time.box) e in
      record { box = h; apart = p.1; here = p.0 }

  pub other-is : (i : ℕ) → Other s c i → is_other s c i ≡ true
  other-is i o =
      has-without s.present c i (small time.box) (small o.box)
      ∙ and_both o.here (ap not (ne_eqb i c o.apart))

  others-count : tally s.n (is_other s c) ≡ others# s
  others-count =
      tally-without s.n s.present c time.sizes.few-boxes time.present time.box
      time.here

  -- at most w for each other box
  few : (e : ℕ → ℕ) (w : ℕ) → ((i : ℕ) → e i ≤ w)
      → sum s.n (λ i. cond (is_other s c i) (e i) 0) ≤ others# s * w
  few e w h =
      rw (← others-count) (sum-few s.n _ (is_other s c) w (λ i l. go i (is_other s c i)))
    where
      go : (i : ℕ) (t : Bool) → cond t (e i) 0 ≤ cond t w 0
      go i true = h i
      go i false = omega arith

  -- ---- those that have promised more

  pub above-few : (box : ℕ → Box)
      → tally s.n (λ b. is_other s c b && ltb (pn (box c)) (pn (box b))) ≤ others# s
  above-few box = rw (← others-count)
      (tally-up s.n _ (is_other s c) (λ i h e. (and_yes (is_other s c i) _ e).0))

  module _ (box box' : ℕ → Box)
      (up : (b : ℕ) → Other s c b → pn (box' c) < pn (box' b) → pn (box c) < pn (box b)) where
    still : (b : ℕ) → In b s.n
        → (is_other s c b && ltb (pn (box' c)) (pn (box' b))) ≡ true
        → (is_other s c b && ltb (pn (box c)) (pn (box b))) ≡ true
    still b h e = let p = and_yes (is_other s c b) _ e in
        and_both p.0 (lt-ltb _ _ (up b (is-other b h p.0) (ltb-true _ _ p.1)))

    pub above-le :
        tally s.n (λ b. is_other s c b && ltb (pn (box' c)) (pn (box' b)))
        ≤ tally s.n (λ b. is_other s c b && ltb (pn (box c)) (pn (box b)))
    above-le = tally-up s.n _ _ still

    pub above-less : (b : ℕ) → Other s c b → pn (box c) < pn (box b) → pn (box' b) ≤ pn (box' c)
        → tally s.n (λ b. is_other s c b && ltb (pn (box' c)) (pn (box' b)))
        < tally s.n (λ b. is_other s c b && ltb (pn (box c)) (pn (box b)))
    above-less b o l m =
        tally-less s.n _ _ b o.box (off (decide _)) (and_both (other-is b o) (lt-ltb _ _ l))
        still
      where
        off : Or ((is_other s c b && ltb (pn (box' c)) (pn (box' b))) ≡ true)
            ((is_other s c b && ltb (pn (box' c)) (pn (box' b))) ≡ false)
            → (is_other s c b && ltb (pn (box' c)) (pn (box' b))) ≡ false
        off (left e) =
            let k : pn (box' c) < pn (box' b) =
            ltb-true _ _ (and_yes (is_other s c b) _ e).1 in
            absurd (omega (arith, k, m))
        off (right e) = e

  -- ---- the mails under way

  module _ (box : ℕ → Box) (link : Links) (e : ℕ → ℕ) (w : ℕ) (most : (i : ℕ) → e i ≤ w) where
    under-le : (i : ℕ) → In i s.n
        → (Other s c i → loads (others# s) link c i ≤ loads (others# s) s.link c i + e i)
        → under-way (changed s box link) c i ≤ under-way s c i + cond (is_other s c i) (e i) 0
    under-le i h l = go (is_other s c i) refl
      where
        go : (t : Bool) → is_other s c i ≡ t
            → cond t (loads (others# s) link c i) 0
            ≤ cond t (loads (others# s) s.link c i) 0 + cond t (e i) 0
        go true p = l (is-other i h p)
        go false p = omega arith

    -- v leaves between the leader and box b, and to each other box at most w comes
    pub under_moves : (b v : ℕ) → Other s c b
        → ((i : ℕ) → Other s c i → (i ≡ b → ⊥)
        → loads (others# s) link c i ≤ loads (others# s) s.link c i + e i)
        → loads (others# s) link c b + v ≤ loads (others# s) s.link c b + e b
        → sum s.n (under-way (changed s box link) c) + v
        ≤ sum s.n (under-way s c) + others# s * w
    under_moves b v o l m =
        let moves = sum_moves s.n (under-way s c) (under-way (changed s box link) c)
        (λ i. cond (is_other s c i) (e i) 0) b v o.box
        (λ i h d. under-le i h (λ q. l i q d)) (rw (other-is b o) m) in
        omega (arith, moves, few e w most)

    pub under-comes :
        ((i : ℕ) → Other s c i
        → loads (others# s) link c i ≤ loads (others# s) s.link c i + e i)
        → sum s.n (under-way (changed s box link) c)
        ≤ sum s.n (under-way s c) + others# s * w
    under-comes l =
        let comes = sum-le s.n (under-way s c) (under-way (changed s box link) c)
        (λ i. cond (is_other s c i) (e i) 0) (λ i h. under-le i h (l i)) in
        omega (arith, comes, few e w most)
