-- The lines of the bodies: box after box, and all of them.
use mathlib.Core.Path.{◌≡◌, refl, sym, ap, ◌∙◌}
use mathlib.Core.Bool.{Bool, true, false, cond}
use Prim.Native.Nat.{ℕ, suc, ◌+◌, ◌-◌, ◌*◌, ◌≤◌, ◌<◌}
use native.Mathlib.Omega.{arith}
use mathlib.Core.List.{List, ◌++◌}
use lib.Dec.{eqb}
use lib.ListN.{length, get_or, set, length-set}
use lib.Seq.{get_or-set_same, get_or-set_other}
use borrow.Author.Tests.{eqb-true, eqb-false}
use Rattle.rules.specs.Sizes.{most_boxes}
use Rattle.cells.specs.Cells.{chain}
use Rattle.cells.proofs.ChainLaws.{chain_snoc}
use Rattle.image.specs.Image.{numbers_from}
use Rattle.image.proofs.OrderLaws.{from_snoc}
use Rattle.print.specs.Text.{Wrote}
use Rattle.print.proofs.WriteLaws.{nothing, then, spelled, at_most}
use Rattle.found.specs.Found.{Found}
use Rattle.found.specs.Found.{is_kept, box_found}
use Rattle.salvage.specs.Table.{box_body_of}
use Rattle.salvage.specs.Tally.{flagged}
use Rattle.salvage.specs.Block.{box_line}
use Rattle.salvage.specs.Put.{BoxesPut}

flag-told : (b : Bool) {v : ℕ} → v ≡ cond b 1 0 → eqb v 1 ≡ b
flag-told true e = ap (λ (x : ℕ). eqb x 1) e
flag-told false e = ap (λ (x : ℕ). eqb x 1) e

module _ (im : List ℕ) (n J : ℕ) where
  abbrev found_at : ℕ → Found
  found_at b = box_found n J b (box_body_of im b)

  abbrev line_at : ℕ → List ℕ
  line_at b = box_line b (found_at b)

  -- i boxes are told
  pub record BoxesTo (at : ℕ) (o o' ks : List ℕ) (i p : ℕ) : Type 0 where
    pub few : i ≤ n
    pub wrote : Wrote (160 * i) o o' at p (chain line_at (numbers_from 1 i))
    pub words : length ks ≡ most_boxes
    pub each : (b : ℕ) → 1 ≤ b → b ≤ i → flagged ks b ≡ is_kept (found_at b)

  pub boxes-none : (at : ℕ) (o ks : List ℕ) → length ks ≡ most_boxes → BoxesTo at o o ks 0 at
  unfolding chain numbers_from
  boxes-none at o ks e = record {
    few = omega arith;
    wrote = at_most {m = 0} (omega arith) nothing;
    words = e;
    each = λ b l h. absurd (let no : ⊥ = omega arith in no);
  }

  module _ {at : ℕ} {o o' ks : List ℕ} {i p : ℕ} (w : BoxesTo at o o' ks i p) (h : i < n)
      (few : n ≤ most_boxes) {f : Found} {v : ℕ} (e : f ≡ found_at (i + 1))
      (flag : v ≡ cond (is_kept f) 1 0) where
    flags : (b : ℕ) → 1 ≤ b → b ≤ i + 1 → (t : Bool) → eqb b (i + 1) ≡ t
        → flagged (set ks i v) b ≡ is_kept (found_at b)
    flags b l m true t =
        let is = eqb-true b (i + 1) t in
        let size = w.words in
        let at_i : b - 1 ≡ i = omega arith in
        ap (λ (x : ℕ). eqb (get_or (set ks i v) x 0) 1) at_i
        ∙ ap (λ (x : ℕ). eqb x 1) (get_or-set_same ks i v 0 (omega arith))
        ∙ flag-told (is_kept f) flag
        ∙ ap is_kept (e ∙ ap found_at (sym is))
    flags b l m false t =
        let is = eqb-false b (i + 1) t in
        ap (λ (x : ℕ). eqb x 1)
        (get_or-set_other ks i (b - 1) v 0 (λ q. is (let r : b ≡ i + 1 = omega arith in r)))
        ∙ w.each b l (omega (arith, is))

    pub boxes-more : {o'' : List ℕ} {r : ℕ} → Wrote 160 o' o'' p r (box_line (i + 1) f)
        → BoxesTo at o o'' (set ks i v) (i + 1) r
    boxes-more {o''} {r} put =
        let one : suc i ≡ i + 1 = omega arith in
        let two : 1 + i ≡ i + 1 = omega arith in
        let text : chain line_at (numbers_from 1 i) ++ box_line (i + 1) f
        ≡ chain line_at (numbers_from 1 (i + 1)) =
        ap (λ (x : Found). chain line_at (numbers_from 1 i) ++ box_line (i + 1) x) e
        ∙ ap (λ (x : ℕ). chain line_at (numbers_from 1 i) ++ line_at x) (sym two)
        ∙ sym (chain_snoc line_at (numbers_from 1 i) (1 + i))
        ∙ ap (chain line_at) (sym (from_snoc 1 i))
        ∙ ap (λ (x : ℕ). chain line_at (numbers_from 1 x)) one in
        record {
          few = omega arith;
          wrote = at_most (omega arith) (spelled text (then w.wrote put));
          words = length-set ks i v ∙ w.words;
          each = λ b l m. flags b l m (eqb b (i + 1)) refl;
        }

  pub boxes-all : {at : ℕ} {o o' ks : List ℕ} {i p : ℕ} → BoxesTo at o o' ks i p → n ≤ i
      → n ≤ most_boxes → BoxesPut im n J ks o o' at p
  boxes-all {i = i} w h few =
      let f = w.few in
      let e : i ≡ n = omega arith in
      record {
        wrote = at_most (omega arith)
            (spelled (ap (λ (x : ℕ). chain line_at (numbers_from 1 x)) e) w.wrote);
        flags = record {
          words = w.words;
          each = λ b l m. w.each b l (omega arith);
        };
      }
