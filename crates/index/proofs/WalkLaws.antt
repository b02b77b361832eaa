-- The walk along one chain: where it stands, and that the numbers it has passed are not it.
use mathlib.Core.Path.{◌≡◌, refl, sym, ap, ◌∙◌}
use Prim.Native.Nat.{ℕ, suc, ◌+◌, ◌-◌, ◌%◌, ◌≤◌, ◌<◌}
use native.Mathlib.Omega.{arith}
use mathlib.Core.Bool.{true, false}
use mathlib.Core.List.{List, [], ◌∷◌}
use lib.Dec.{eqb}
use lib.ListN.{length, get_or, drop, length-drop}
use lib.Seq.{drop-cons, drop-drop, get_or-drop}
use borrow.Author.Tests.{eqb-true, eq-eqb}
use Rattle.rules.specs.Pick.{pick, pick_true, pick-false}
use Rattle.rules.specs.Sizes.{left_of}
use Rattle.index.specs.Index.{slots, slot_of, in_slot, has_left, head_of, nexts_of, first_of}
use Rattle.index.specs.Index.{first_with, nexts_at}
use Rattle.index.specs.Lent.{Indexed, Walks}
use Rattle.index.proofs.CaseLaws.{test-cases, none-cases, is_none, is_some}
use Rattle.index.proofs.FirstLaws.{Within, first-here, first_on, first-within}
use Rattle.index.proofs.NextLaws.{in-slot, get_or-nexts}
use Rattle.index.proofs.LentLaws.{head-word, next_word}
use Rattle.index.proofs.FormLaws.{form-indexed}

-- the walk stands at number `at`, of the slot; what is looked for is not before it
pub record Reached (left k at : ℕ) (rs : List ℕ) : Type 0 where
  pub within : Within k (length rs) at
  pub on : first_with left k rs ≡ first_with left at (drop (at - k) rs)
  pub slot : slot_of (get_or rs (at - k) 0) ≡ left % slots

-- .. or at the end of the chain, and there is none
pub record Walk (left k at : ℕ) (rs : List ℕ) : Type 0 where
  pub none : at ≡ 0 → first_with left k rs ≡ 0
  pub some : 1 ≤ at → Reached left k at rs

-- a frame is looked for in its slot
pub has-slot : (left r : ℕ) → in_slot (left % slots) r ≡ false → has_left left r ≡ false
unfolding in_slot has_left slot_of
has-slot left r e =
    test-cases (eqb (left_of r) left)
    (λ t.
    let same = ap (λ (l : ℕ). l % slots) (eqb-true (left_of r) left t) in
    t ∙ sym (eq-eqb (left_of r % slots) (left % slots) same) ∙ e)
    (λ f. f)

-- a walk in the records from place j on, before which it is not
walk-on : (left k j at : ℕ) (rs : List ℕ) → j ≤ length rs
    → first_with left k rs ≡ first_with left (k + j) (drop j rs)
    → Walk left (k + j) at (drop j rs) → Walk left k at rs
walk-on left k j at rs h e w =
    record {
      none = λ z. e ∙ w.none z;
      some = λ s.
          let d = w.some s in
          let low = d.within.low in
          let high = rw length-drop at d.within.high in
          let n = at - (k + j) in
          let to : j + n ≡ at - k = omega arith in
          let same : drop n (drop j rs) ≡ drop (at - k) rs =
          drop-drop n j rs ∙ ap (λ (i : ℕ). drop i rs) to in
          let here : get_or (drop j rs) n 0 ≡ get_or rs (at - k) 0 =
          get_or-drop j rs n 0 ∙ ap (λ (i : ℕ). get_or rs i 0) to in
          record {
            within = record { low = omega arith; high = omega arith };
            on = e ∙ d.on ∙ ap (first_with left at) same;
            slot = ap slot_of (sym here) ∙ d.slot;
          };
    }

-- the walk begins at the head
pub walk-head : (left k : ℕ) (rs : List ℕ) → 1 ≤ k → Walk left k (head_of (left % slots) k rs) rs
unfolding first_of
walk-head left k [] b =
    record { none = λ z. refl; some = λ s. absurd (omega arith) }
walk-head left k (r ∷ rs) b =
    let o = in_slot (left % slots) in
    test-cases (o r)
    (λ e.
    let z : k - k ≡ 0 = omega arith in
    rw (first-here o k r rs e)
    (record {
      none = λ n. absurd (omega arith);
      some = λ s.
          record {
            within = record { low = omega arith; high = omega arith };
            on = rw z refl;
            slot = rw z (in-slot (left % slots) r e);
          };
    }))
    (λ e.
    rw (first_on o k r rs e)
    (walk-on left k 1 (head_of (left % slots) (k + 1) rs) (r ∷ rs) (omega arith)
    (first_on (has_left left) k r rs (has-slot left r e))
    (walk-head left (k + 1) rs (omega arith))))

module _ {left k at : ℕ} {rs : List ℕ} (b : 1 ≤ k) (d : Reached left k at rs) where
  abbrev i : ℕ
  i = at - k

  abbrev r : ℕ
  r = get_or rs i 0

  place : i < length rs
  place = let low = d.within.low in let high = d.within.high in omega arith

  from-here : drop i rs ≡ r ∷ drop (suc i) rs
  from-here = drop-cons rs i 0 place

  -- it is found
  pub walk-found : has_left left r ≡ true → at ≡ first_with left k rs
  walk-found e =
      sym (d.on ∙ ap (first_with left at) from-here
      ∙ first-here (has_left left) at r (drop (suc i) rs) e)

  abbrev next : ℕ
  next = get_or (nexts_of k rs) i 0

  next-head : next ≡ head_of (left % slots) (k + suc i) (drop (suc i) rs)
  next-head = get_or-nexts k i rs place ∙ rw d.slot refl

  -- it is not, and the walk goes on, upwards
  pub walk-next : has_left left r ≡ false → Walk left k next rs
  walk-next e =
      let low = d.within.low in
      let to : at + 1 ≡ k + suc i = omega arith in
      rw next-head
      (walk-on left k (suc i) (head_of (left % slots) (k + suc i) (drop (suc i) rs)) rs place
      (d.on ∙ ap (first_with left at) from-here
      ∙ first_on (has_left left) at r (drop (suc i) rs) e
      ∙ ap (λ (a : ℕ). first_with left a (drop (suc i) rs)) to)
      (walk-head left (k + suc i) (drop (suc i) rs) (omega arith)))

  pub walk_upwards : 1 ≤ next → at < next
  walk_upwards s =
      let low = d.within.low in
      let w =
      first-within (in_slot (left % slots)) (k + suc i) (drop (suc i) rs) (rw next-head at s) in
      rw next-head (omega arith)

-- ---- how far the walk can still go

unfoldable pub to_go : ℕ → ℕ → ℕ
to_go end at = pick (eqb at 0) 0 (end - at)

pub go-less : (end at next : ℕ) → 1 ≤ at → at < end → (1 ≤ next → at < next)
    → to_go end next < to_go end at
unfolding to_go
go-less end at next s h up =
    rw (pick-false (eqb at 0) _ _ (is_some at s))
    (none-cases next
    (λ z. rw (pick_true (eqb next 0) _ _ (is_none next z)) (omega arith))
    (λ t. rw (pick-false (eqb next 0) _ _ (is_some next t)) (let u = up t in omega arith)))

-- ---- a turn of the loop, over what the code computes

module _ {k : ℕ} {rs ix : List ℕ} (v : Walks k rs ix) where
  x : Indexed 0 k rs ix
  x = form-indexed k rs ix v.form

  pub walk-room : nexts_at + length rs ≤ length ix
  walk-room = x.room

  pub walk_start : {left : ℕ} (slot : ℕ) → slot ≡ left % slots → Walk left k (get_or ix slot 0) rs
  walk_start {left} slot e =
      let h : left % slots < slots = omega arith in
      rw (e, head-word x (left % slots) h) (walk-head left k rs x.begins)

  module _ {left at : ℕ} (w : Walk left k at rs) (s : 1 ≤ at) where
    -- the record of number at is there
    pub walk-within : Within k (length rs) at
    walk-within = (w.some s).within

    module _ (i : ℕ) (e : i ≡ at - k) where
      next-is : get_or ix (nexts_at + i) 0 ≡ get_or (nexts_of k rs) (at - k) 0
      next-is =
          let low = walk-within.low in
          let high = walk-within.high in
          let a : nexts_at + i ≡ nexts_at + 0 + (at - k) = omega arith in
          ap (λ (j : ℕ). get_or ix j 0) a ∙ next_word x (at - k) (omega arith)

      pub found : has_left left (get_or rs i 0) ≡ true → at ≡ first_with left k rs
      found t = walk-found x.begins (w.some s) (rw e at t)

      pub goes_on : has_left left (get_or rs i 0) ≡ false
          → Walk left k (get_or ix (nexts_at + i) 0) rs
      goes_on f = rw next-is (walk-next x.begins (w.some s) (rw e at f))

      pub goes-less :
          to_go (k + length rs) (get_or ix (nexts_at + i) 0) < to_go (k + length rs) at
      goes-less =
          go-less (k + length rs) at (get_or ix (nexts_at + i) 0) s walk-within.high
          (λ t. rw next-is (walk_upwards x.begins (w.some s) (rw next-is at t)))
