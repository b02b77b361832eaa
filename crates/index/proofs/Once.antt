-- Nothing else could satisfy the statements: the full reading is the answer by its words, there is
-- one answer, and there is one index of given records.
use mathlib.Core.Path.{◌≡◌, refl, sym, ◌∙◌}
use Prim.Native.Nat.{ℕ, zero, suc, ◌+◌, ◌-◌, ◌≤◌, ◌<◌}
use native.Mathlib.Omega.{arith}
use mathlib.Core.Bool.{Bool, true}
use mathlib.Core.List.{List, [], ◌∷◌}
use lib.Dec.{ltb}
use lib.ListN.{length, get_or, take}
use lib.Seq.{take-add}
use borrow.Author.Tests.{eqb-true, eq-eqb, ltb-true, ltb-false}
use Rattle.rules.specs.Sizes.{left_of}
use Rattle.index.specs.Index.{slots, nexts_at, first_of, has_left, first_with}
use Rattle.index.specs.Lent.{Indexed}
use Rattle.index.specs.Found.{Answers}
use Rattle.index.proofs.CaseLaws.{test-cases, none-cases}
use Rattle.index.proofs.FirstLaws.{first-here, first_on, first-within}

-- ---- the smallest number whose record passes p

module _ (p : ℕ → Bool) where
  first_passes : (k : ℕ) (rs : List ℕ) → 1 ≤ first_of p k rs
      → p (get_or rs (first_of p k rs - k) 0) ≡ true
  unfolding first_of
  first_passes k [] h = absurd (omega arith)
  first_passes k (r ∷ rs) h =
      test-cases (p r)
      (λ e.
      let z : k - k ≡ 0 = omega arith in
      rw (first-here p k r rs e, z) e)
      (λ e.
      let on = first_on p k r rs e in
      let some = rw on at h in
      let low = (first-within p (k + 1) rs some).low in
      let s : first_of p (k + 1) rs - k ≡ suc (first_of p (k + 1) rs - (k + 1)) = omega arith in
      rw (on, s) (first_passes (k + 1) rs some))

  first-least : (k i : ℕ) (rs : List ℕ) → 1 ≤ k → i < length rs → p (get_or rs i 0) ≡ true
      → (1 ≤ first_of p k rs) × (first_of p k rs ≤ k + i)
  first-least k i [] b h e = absurd (omega arith)
  first-least k zero (r ∷ rs) b h e = rw (first-here p k r rs e) (omega arith, omega arith)
  first-least k (suc i) (r ∷ rs) b h e =
      test-cases (p r)
      (λ t. rw (first-here p k r rs t) (omega arith, omega arith))
      (λ t.
      let rest = first-least (k + 1) i rs (omega arith) (omega arith) e in
      let more = rest.1 in
      rw (first_on p k r rs t) (rest.0, omega arith))

-- ---- the answer

-- the full reading is the answer, ..
pub found-least : (left k : ℕ) (rs : List ℕ) → 1 ≤ k → Answers left k rs (first_with left k rs)
unfolding has_left
found-least left k rs b =
    let p = has_left left in
    record {
      kept = λ s. let w = first-within p k rs s in (w.low, w.high);
      has = λ s. eqb-true _ left (first_passes p k rs s);
      least = λ i h l e.
          let f = (first-least p k i rs b h (eq-eqb (left_of (get_or rs i 0)) left e)).1 in
          omega arith;
      none = λ z i h e.
          let f = (first-least p k i rs b h (eq-eqb (left_of (get_or rs i 0)) left e)).0 in
          omega arith;
    }

module _ {left k x y : ℕ} {rs : List ℕ} (a : Answers left k rs x) (b : Answers left k rs y) where
  not-above : 1 ≤ x → y ≤ x
  not-above s =
      test-cases (ltb x y)
      (λ t.
      let kept = a.kept s in
      let low = kept.0 in
      let high = kept.1 in
      let l = ltb-true x y t in
      absurd (b.least (x - k) (omega arith) (omega arith) (a.has s)))
      (λ f. ltb-false x y f)

  not_none : 1 ≤ x → y ≡ 0 → ⊥
  not_none s z =
      let kept = a.kept s in
      let low = kept.0 in
      let high = kept.1 in
      b.none z (x - k) (omega arith) (a.has s)

-- .. and the only one
pub answer-once : {left k x y : ℕ} {rs : List ℕ} → Answers left k rs x → Answers left k rs y
    → x ≡ y
answer-once {x = x} {y = y} a b =
    none-cases x
    (λ z. none-cases y (λ w. z ∙ sym w) (λ t. absurd (not_none b a t z)))
    (λ s.
    none-cases y
    (λ w. absurd (not_none a b s w))
    (λ t. let l = not-above a b s in let m = not-above b a t in omega arith))

-- ---- the index

-- Two that hold the index of the same records have the same words, up to the unused room.
pub index-once : {k : ℕ} {rs xs ys : List ℕ} → Indexed 0 k rs xs → Indexed 0 k rs ys
    → take (nexts_at + length rs) xs ≡ take (nexts_at + length rs) ys
index-once {rs = rs} {xs} {ys} a b =
    rw (
      take-add nexts_at (length rs) xs,
      take-add nexts_at (length rs) ys,
      take-add slots slots xs,
      take-add slots slots ys,
      a.heads ∙ sym b.heads,
      a.tails ∙ sym b.tails,
      a.nexts ∙ sym b.nexts,
    ) refl
