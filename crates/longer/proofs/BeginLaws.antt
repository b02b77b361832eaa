-- Whether a list is the beginning of another: the library's test, and what it says.
use Prim.Native.Nat.{ℕ, suc, ◌≤◌}
use mathlib.Core.Path.{◌≡◌, refl, sym, ap, ◌∙◌}
use mathlib.Core.Bool.{true, false, ◌&&◌}
use mathlib.Core.List.{List, [], ◌∷◌}
use native.Mathlib.Omega.{arith}
use lib.Dec.{eqb}
use lib.Pointwise.{pointwise}
use lib.ListN.{length, take, get_or}
use lib.Seq.{get_or-take}
use borrow.Author.Tests.{eq-eqb, eqb-true, eqb-false}
use Rattle.rules.specs.Pick.{pick_true, pick-false}
use Rattle.laws.proofs.Logic.{Or, left, right, decide, both-no}
use Rattle.longer.specs.Longer.{begins}
use Rattle.longer.specs.Told.{DifferAt}

-- ---- what the test says

on : (x y : ℕ) (xs ys : List ℕ) → eqb x y ≡ true → begins (x ∷ xs) (y ∷ ys) ≡ begins xs ys
unfolding begins
on x y xs ys t = pick_true _ _ _ t

stop : (x y : ℕ) (xs ys : List ℕ) → eqb x y ≡ false → begins (x ∷ xs) (y ∷ ys) ≡ false
unfolding begins
stop x y xs ys t = pick-false _ _ _ t

-- the library's test of a list that is no longer
pub starts-begins : (xs ys : List ℕ) → length xs ≤ length ys
    → pointwise eqb xs (take (length xs) ys) ≡ begins xs ys
unfolding begins
starts-begins [] ys h = refl
starts-begins (x ∷ xs) [] h = absurd (omega arith)
starts-begins (x ∷ xs) (y ∷ ys) h = go (decide (eqb x y)) (starts-begins xs ys (omega arith))
  where
    go : Or (eqb x y ≡ true) (eqb x y ≡ false)
        → pointwise eqb xs (take (length xs) ys) ≡ begins xs ys
        → (eqb x y && pointwise eqb xs (take (length xs) ys)) ≡ begins (x ∷ xs) (y ∷ ys)
    go (left t) e = ap (λ b. b && pointwise eqb xs (take (length xs) ys)) t ∙ e
        ∙ sym (on x y xs ys t)
    go (right f) e =
        ap (λ b. b && pointwise eqb xs (take (length xs) ys)) f ∙ sym (stop x y xs ys f)

abbrev Front : List ℕ → List ℕ → Type 0
Front xs ys = (length xs ≤ length ys) × (take (length xs) ys ≡ xs)

-- Where it passes, the first list is the front of the second; ..
pub begins-yes : (xs ys : List ℕ) → begins xs ys ≡ true
    → (length xs ≤ length ys) × (take (length xs) ys ≡ xs)
unfolding begins
begins-yes [] ys e = (omega arith, refl)
begins-yes (x ∷ xs) [] e = absurd (both-no e refl)
begins-yes (x ∷ xs) (y ∷ ys) e = go (decide (eqb x y)) (begins-yes xs ys) e
  where
    go : Or (eqb x y ≡ true) (eqb x y ≡ false) → (begins xs ys ≡ true → Front xs ys)
        → begins (x ∷ xs) (y ∷ ys) ≡ true → Front (x ∷ xs) (y ∷ ys)
    go (left t) f e =
        let r = f (sym (on x y xs ys t) ∙ e) in
        let h = r.0 in
        (omega arith, rw (eqb-true x y t, r.1))
    go (right t) f e = absurd (both-no e (stop x y xs ys t))

-- .. and where it is, the test passes.
pub yes-begins : (xs ys : List ℕ) → take (length xs) ys ≡ xs → begins xs ys ≡ true
unfolding begins
yes-begins [] ys e = refl
yes-begins (x ∷ xs) [] e = let z : ◌≡◌ {A = ℕ} 0 1 = cc in absurd (omega arith)
yes-begins (x ∷ xs) (y ∷ ys) e =
    let h : y ≡ x = cc in
    let t : take (length xs) ys ≡ xs = cc in
    pick_true _ _ _ (eq-eqb x y (sym h)) ∙ yes-begins xs ys t

-- Where it fails, two records of one number differ, unless the second list is shorter; ..
pub begins-no : (xs ys : List ℕ) → length xs ≤ length ys → begins xs ys ≡ false
    → (i : ℕ) × DifferAt xs ys i
unfolding begins
begins-no [] ys h e = absurd (both-no refl e)
begins-no (x ∷ xs) [] h e = absurd (omega arith)
begins-no (x ∷ xs) (y ∷ ys) h e = go (decide (eqb x y)) (begins-no xs ys (omega arith)) e
  where
    go : Or (eqb x y ≡ true) (eqb x y ≡ false)
        → (begins xs ys ≡ false → (i : ℕ) × DifferAt xs ys i)
        → begins (x ∷ xs) (y ∷ ys) ≡ false → (i : ℕ) × DifferAt (x ∷ xs) (y ∷ ys) i
    go (left t) f e =
        let r = f (sym (on x y xs ys t) ∙ e) in
        let p = r.1.in_first in
        let q = r.1.in_second in (
          suc r.0,
          record {
            in_first = omega arith;
            in_second = omega arith;
            differ = r.1.differ;
          },
        )
    go (right t) f e =
        (0, record { in_first = omega arith; in_second = omega arith; differ = eqb-false x y t })

-- .. and where two differ, it fails.
pub no-begins : (xs ys : List ℕ) (i : ℕ) → DifferAt xs ys i → begins xs ys ≡ false
no-begins xs ys i d = go (decide (begins xs ys))
  where
    go : Or (begins xs ys ≡ true) (begins xs ys ≡ false) → begins xs ys ≡ false
    go (left e) =
        absurd (d.differ (ap (λ zs. get_or zs i 0) (sym (begins-yes xs ys e).1)
        ∙ get_or-take (length xs) ys i 0 d.in_first))
    go (right e) = e
