-- Two cases: of a test, and of a number that means none where it is 0.
use mathlib.Core.Path.{◌≡◌, refl}
use Prim.Native.Nat.{ℕ, zero, suc, ◌≤◌}
use mathlib.Core.Bool.{Bool, true, false}
use native.Mathlib.Omega.{arith}
use borrow.Author.Tests.{eq-eqb, ne_eqb}
use lib.Dec.{eqb}

module _ {ℓ} {A : Type ℓ} where
  pub test-cases : (t : Bool) → (t ≡ true → A) → (t ≡ false → A) → A
  test-cases true f g = f refl
  test-cases false f g = g refl

  pub none-cases : (x : ℕ) → (x ≡ 0 → A) → (1 ≤ x → A) → A
  none-cases zero f g = f refl
  none-cases (suc x) f g = g (omega arith)

-- the test that the definitions use
pub is_none : (x : ℕ) → x ≡ 0 → eqb x 0 ≡ true
is_none x e = eq-eqb x 0 e

pub is_some : (x : ℕ) → 1 ≤ x → eqb x 0 ≡ false
is_some x h = ne_eqb x 0 (λ e. omega arith)
