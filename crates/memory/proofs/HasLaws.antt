-- A box is in a set where the set and the box alone share a digit.
use Prim.Native.Nat.{ℕ, zero, suc, ◌≤◌}
use mathlib.Core.Path.{◌≡◌, refl, sym, ap, ◌∙◌}
use mathlib.Core.Bool.{Bool, true, false, not, ◌&&◌, and-false}
use native.Mathlib.Omega.{arith}
use lib.Bits.{bit_and, and_comm, and_zero_r}
use lib.Dec.{eqb}
use borrow.Author.Tests.{eq-eqb, ne_eqb}
use Rattle.rules.specs.Pick.{pick}
use Rattle.rules.specs.Sets.{bit, has}
use Rattle.rules.specs.Sizes.{most_boxes}
use Rattle.laws.proofs.Logic.{In, both-no, eqb_same, eqb_yes}
use Rattle.laws.proofs.SetLaws.{has-and, has-bit, has-zero, set-and, set-bit, set_ext, set-zero}

module _ (w k : ℕ) (h : In k most_boxes) where
  shared : (i : ℕ) → has (bit_and w (bit k)) i ≡ (has w i && eqb i k)
  shared i = has-and w (bit k) i ∙ ap (λ (t : Bool). has w i && t) (has-bit k i h)

  -- it is there, and so the two share it
  some-shared : has w k ≡ true → bit_and w (bit k) ≡ 0 → ⊥
  some-shared e z =
      both-no (shared k ∙ rw (e, eqb_same k) refl) (ap (λ (v : ℕ). has v k) z ∙ has-zero k)

  -- it is not there, and so they share nothing
  none-shared : has w k ≡ false → bit_and w (bit k) ≡ 0
  none-shared e =
      set_ext most_boxes (bit_and w (bit k)) 0
      (rw and_comm (set-and most_boxes (bit k) w (set-bit most_boxes k (omega arith) h)))
      (set-zero most_boxes)
      (λ i g. shared i ∙ off i (eqb i k) refl ∙ sym (has-zero i))
    where
      off : (i : ℕ) (t : Bool) → eqb i k ≡ t → (has w i && t) ≡ false
      off i true d = rw (eqb_yes i k d, e) refl
      off i false d = and-false (has w i)

pub has-bits : (w k : ℕ) → k ≤ most_boxes → not (eqb (bit_and w (bit k)) 0) ≡ has w k
unfolding has bit pick
has-bits w zero h = rw and_zero_r refl
has-bits w (suc k) h = go (has w (suc k)) refl
  where
    one : In (suc k) most_boxes
    one = (omega arith, omega arith)

    go : (t : Bool) → has w (suc k) ≡ t → not (eqb (bit_and w (bit (suc k))) 0) ≡ t
    go true e = ap not (ne_eqb _ 0 (some-shared w (suc k) one e))
    go false e = ap not (eq-eqb _ 0 (none-shared w (suc k) one e))
