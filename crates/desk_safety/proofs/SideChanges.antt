-- Who waits on a side after a word is set, and after a frame has left.
use Prim.Native.Nat.{ℕ, zero, suc, ◌<◌}
use mathlib.Core.Path.{◌≡◌, refl, sym, ap, ◌∙◌}
use mathlib.Core.List.{List, [], ◌∷◌}
use native.Mathlib.Omega.{arith}
use lib.Dec.{eqb}
use lib.ListN.{length, get_or, set, length-set}
use lib.Seq.{get_or-set_same, get_or-set_other}
use borrow.Author.Tests.{eqb-false, ne_eqb}
use Rattle.rules.specs.Pick.{pick-false}
use Rattle.rules.specs.Sizes.{record_of}
use Rattle.laws.proofs.Logic.{Or, left, right, same?, pick_elim}
use Rattle.desk.specs.Sides.{frame_of, tick_of, unless, without}
use Rattle.desk.specs.Told.{WaitsAt}
use Rattle.desk.proofs.SideLaws.{length_without}
use Rattle.desk_safety.specs.Runs.{Fits}

pub frame_is : (f t : ℕ) → Fits t → frame_of (record_of f t) ≡ f
frame_is f t h = omega arith

pub tick_is : (f t : ℕ) → Fits t → tick_of (record_of f t) ≡ t
tick_is f t h = omega arith

-- ---- a word is set

module _ (v : List ℕ) (p w f t : ℕ) where
  pub set-came : p < length v → WaitsAt f t (set v p w)
      → Or ((frame_of w ≡ f) × (tick_of w ≡ t)) (WaitsAt f t v)
  set-came h a = go (same? a.place p)
    where
      go : Or (a.place ≡ p) (a.place ≡ p → ⊥)
          → Or ((frame_of w ≡ f) × (tick_of w ≡ t)) (WaitsAt f t v)
      go (left e) =
          let is : get_or (set v p w) a.place 0 ≡ w =
          ap (λ i. get_or (set v p w) i 0) e ∙ get_or-set_same v p w 0 h in
          left (ap frame_of (sym is) ∙ a.frame, ap tick_of (sym is) ∙ a.tick)
      go (right n) =
          let is = get_or-set_other v p a.place w 0 n in
          right (record {
            place = a.place;
            there = omega (arith, a.there, length-set v p w);
            frame = ap frame_of (sym is) ∙ a.frame;
            tick = ap tick_of (sym is) ∙ a.tick;
          })

  pub set-stays : frame_of (get_or v p 0) ≡ 0 → (f ≡ 0 → ⊥) → WaitsAt f t v
      → WaitsAt f t (set v p w)
  set-stays z k a =
      let n : a.place ≡ p → ⊥ =
      λ e. k (sym a.frame ∙ ap (λ i. frame_of (get_or v i 0)) e ∙ z) in
      let is = get_or-set_other v p a.place w 0 n in
      record {
        place = a.place;
        there = omega (arith, a.there, length-set v p w);
        frame = ap frame_of is ∙ a.frame;
        tick = ap tick_of is ∙ a.tick;
      }

-- ---- a frame has left

get_or-without : (g : ℕ) (v : List ℕ) (i : ℕ) → i < length v
    → get_or (without g v) i 0 ≡ unless g (get_or v i 0)
unfolding without
get_or-without g [] i h = absurd (omega arith)
get_or-without g (w ∷ v) zero h = refl
get_or-without g (w ∷ v) (suc i) h = get_or-without g v i (omega arith)

module _ (g : ℕ) (v : List ℕ) (f t : ℕ) where
  unless-has : (w : ℕ) → (f ≡ 0 → ⊥) → frame_of (unless g w) ≡ f
      → (unless g w ≡ w) × (frame_of w ≡ g → ⊥)
  unless-has w k =
      pick_elim (λ u. frame_of u ≡ f → (u ≡ w) × (frame_of w ≡ g → ⊥)) (eqb (frame_of w) g)
      (λ y e. absurd (k (sym e)))
      (λ n e. (refl, eqb-false _ _ n))

  pub without-came : (f ≡ 0 → ⊥) → WaitsAt f t (without g v) → WaitsAt f t v × (f ≡ g → ⊥)
  without-came k a =
      let h : a.place < length v = omega (arith, a.there, length_without g v) in
      let is = get_or-without g v a.place h in
      let has = unless-has (get_or v a.place 0) k (ap frame_of (sym is) ∙ a.frame) in
      let w : get_or (without g v) a.place 0 ≡ get_or v a.place 0 = is ∙ has.0 in (
        record {
          place = a.place;
          there = h;
          frame = ap frame_of (sym w) ∙ a.frame;
          tick = ap tick_of (sym w) ∙ a.tick;
        },
        λ e. has.1 (ap frame_of (sym w) ∙ a.frame ∙ e),
      )

  pub without-stays : (f ≡ g → ⊥) → WaitsAt f t v → WaitsAt f t (without g v)
  without-stays n a =
      let h = a.there in
      let is = get_or-without g v a.place h in
      let w : get_or (without g v) a.place 0 ≡ get_or v a.place 0 =
      is ∙ pick-false _ _ _ (ne_eqb _ _ (λ e. n (sym a.frame ∙ e))) in
      record {
        place = a.place;
        there = omega (arith, length_without g v);
        frame = ap frame_of w ∙ a.frame;
        tick = ap tick_of w ∙ a.tick;
      }
