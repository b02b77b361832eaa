-- The smallest and the largest number whose record passes p, where the first record has number k.
use mathlib.Core.Path.{◌≡◌, refl, sym, ap, ◌∙◌}
use Prim.Native.Nat.{ℕ, zero, suc, ◌+◌, ◌≤◌, ◌<◌}
use mathlib.Core.Bool.{Bool, true, false}
use mathlib.Core.List.{List, [], ◌∷◌, ◌++◌}
use native.Mathlib.Omega.{arith}
use lib.ListN.{length, drop}
use Rattle.rules.specs.Pick.{pick_true, pick-false}
use Rattle.index.specs.Index.{first_of, last_of}
use Rattle.index.proofs.CaseLaws.{test-cases, none-cases, is_none, is_some}

-- x is the number of one of n records
pub record Within (k n x : ℕ) : Type 0 where
  pub low : k ≤ x
  pub high : x < k + n

module _ (p : ℕ → Bool) where
  -- ---- by the first record

  pub first-here : (k r : ℕ) (rs : List ℕ) → p r ≡ true → first_of p k (r ∷ rs) ≡ k
  unfolding first_of
  first-here k r rs e = pick_true (p r) k (first_of p (k + 1) rs) e

  pub first_on : (k r : ℕ) (rs : List ℕ) → p r ≡ false
      → first_of p k (r ∷ rs) ≡ first_of p (k + 1) rs
  unfolding first_of
  first_on k r rs e = pick-false (p r) k (first_of p (k + 1) rs) e

  pub last_on : (k r : ℕ) (rs : List ℕ) → 1 ≤ last_of p (k + 1) rs
      → last_of p k (r ∷ rs) ≡ last_of p (k + 1) rs
  unfolding last_of
  last_on k r rs h = pick-false _ _ _ (is_some (last_of p (k + 1) rs) h)

  pub last-here : (k r : ℕ) (rs : List ℕ) → last_of p (k + 1) rs ≡ 0 → p r ≡ true
      → last_of p k (r ∷ rs) ≡ k
  unfolding last_of
  last-here k r rs z e =
      pick_true _ _ _ (is_none (last_of p (k + 1) rs) z) ∙ pick_true (p r) k 0 e

  pub last_none : (k r : ℕ) (rs : List ℕ) → last_of p (k + 1) rs ≡ 0 → p r ≡ false
      → last_of p k (r ∷ rs) ≡ 0
  unfolding last_of
  last_none k r rs z e =
      pick_true _ _ _ (is_none (last_of p (k + 1) rs) z) ∙ pick-false (p r) k 0 e

  pub last-skip : (k r : ℕ) (rs : List ℕ) → p r ≡ false
      → last_of p k (r ∷ rs) ≡ last_of p (k + 1) rs
  last-skip k r rs e =
      none-cases (last_of p (k + 1) rs)
      (λ z. last_none k r rs z e ∙ sym z)
      (λ s. last_on k r rs s)

  -- ---- ranges

  pub first-within : (k : ℕ) (rs : List ℕ) → 1 ≤ first_of p k rs
      → Within k (length rs) (first_of p k rs)
  unfolding first_of
  first-within k [] h = record { low = omega arith; high = omega arith }
  first-within k (r ∷ rs) h =
      test-cases (p r)
      (λ e. rw (first-here k r rs e) (record { low = omega arith; high = omega arith }))
      (λ e.
      let on = first_on k r rs e in
      let w = first-within (k + 1) rs (rw on at h) in
      rw on (record { low = omega arith; high = omega arith }))

  pub last_within : (k : ℕ) (rs : List ℕ) → 1 ≤ last_of p k rs
      → Within k (length rs) (last_of p k rs)
  unfolding last_of
  last_within k [] h = record { low = omega arith; high = omega arith }
  last_within k (r ∷ rs) h =
      none-cases (last_of p (k + 1) rs)
      (λ z.
      test-cases (p r)
      (λ e. rw (last-here k r rs z e) (record { low = omega arith; high = omega arith }))
      (λ e. let none = last_none k r rs z e in record { low = omega arith; high = omega arith }))
      (λ s.
      let on = last_on k r rs s in
      let w = last_within (k + 1) rs s in
      rw on (record { low = omega arith; high = omega arith }))

  -- ---- there is a smallest where there is a largest

  pub none_last : (k : ℕ) (rs : List ℕ) → 1 ≤ k → first_of p k rs ≡ 0 → last_of p k rs ≡ 0
  unfolding last_of
  none_last k [] b z = refl
  none_last k (r ∷ rs) b z =
      test-cases (p r)
      (λ e. let here = first-here k r rs e in omega arith)
      (λ e.
      let on = first_on k r rs e in
      last_none k r rs (none_last (k + 1) rs (omega arith) (rw on at z)) e)

  pub none_first : (k : ℕ) (rs : List ℕ) → 1 ≤ k → last_of p k rs ≡ 0 → first_of p k rs ≡ 0
  unfolding first_of
  none_first k [] b z = refl
  none_first k (r ∷ rs) b z =
      none-cases (last_of p (k + 1) rs)
      (λ y.
      test-cases (p r)
      (λ e. let here = last-here k r rs y e in omega arith)
      (λ e. first_on k r rs e ∙ none_first (k + 1) rs (omega arith) y))
      (λ s. let on = last_on k r rs s in omega arith)

  -- ---- the records from place i on

  -- a largest number that is among them is the largest of all
  pub last-drop : (k i : ℕ) (rs : List ℕ) → 1 ≤ last_of p (k + i) (drop i rs)
      → last_of p k rs ≡ last_of p (k + i) (drop i rs)
  unfolding last_of
  last-drop k zero rs h = ap (λ (a : ℕ). last_of p a rs) (omega arith)
  last-drop k (suc i) [] h = absurd (omega arith)
  last-drop k (suc i) (x ∷ rs) h =
      let on : k + suc i ≡ k + 1 + i = omega arith in
      let rest = last-drop (k + 1) i rs (rw on at h) in
      let some : 1 ≤ last_of p (k + 1) rs = rw rest (rw on at h) in
      last_on k x rs some ∙ rest ∙ ap (λ (a : ℕ). last_of p a (drop i rs)) (sym on)

  -- ---- one record more

  module _ (r : ℕ) where
    abbrev more : List ℕ → List ℕ
    more rs = rs ++ (r ∷ [])

    -- a smallest number stays
    pub first-stays : (k : ℕ) (rs : List ℕ) → 1 ≤ first_of p k rs
        → first_of p k (more rs) ≡ first_of p k rs
    unfolding first_of
    first-stays k [] h = omega arith
    first-stays k (x ∷ rs) h =
        test-cases (p x)
        (λ e. first-here k x (more rs) e ∙ sym (first-here k x rs e))
        (λ e.
        let on = first_on k x rs e in
        first_on k x (more rs) e ∙ first-stays (k + 1) rs (rw on at h) ∙ sym on)

    -- without one, the new record's is it, if it passes
    pub first-new : (k : ℕ) (rs : List ℕ) → 1 ≤ k → first_of p k rs ≡ 0 → p r ≡ true
        → first_of p k (more rs) ≡ k + length rs
    first-new k [] b z e = first-here k r [] e ∙ omega arith
    first-new k (x ∷ rs) b z e =
        test-cases (p x)
        (λ t. let here = first-here k x rs t in omega arith)
        (λ t.
        let on = first_on k x rs t in
        let new = first-new (k + 1) rs (omega arith) (rw on at z) e in
        first_on k x (more rs) t ∙ new ∙ omega arith)

    pub first-same : (k : ℕ) (rs : List ℕ) → p r ≡ false
        → first_of p k (more rs) ≡ first_of p k rs
    unfolding first_of
    first-same k [] e = first_on k r [] e
    first-same k (x ∷ rs) e =
        test-cases (p x)
        (λ t. first-here k x (more rs) t ∙ sym (first-here k x rs t))
        (λ t. first_on k x (more rs) t ∙ first-same (k + 1) rs e ∙ sym (first_on k x rs t))

    -- the new record's number is the largest, if it passes
    pub last-new : (k : ℕ) (rs : List ℕ) → 1 ≤ k → p r ≡ true
        → last_of p k (more rs) ≡ k + length rs
    unfolding last_of
    last-new k [] b e = last-here k r [] refl e ∙ omega arith
    last-new k (x ∷ rs) b e =
        let new = last-new (k + 1) rs (omega arith) e in
        last_on k x (more rs) (omega arith) ∙ new ∙ omega arith

    pub last-same : (k : ℕ) (rs : List ℕ) → p r ≡ false → last_of p k (more rs) ≡ last_of p k rs
    unfolding last_of
    last-same k [] e = last_none k r [] refl e
    last-same k (x ∷ rs) e = rw (last-same (k + 1) rs e) refl
