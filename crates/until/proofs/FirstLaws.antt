-- A scan of the numbers of 1 to n, from 1 on, that stops at the first that passes a test.
use Prim.Native.Nat.{ℕ, ◌+◌, ◌≤◌, ◌<◌}
use mathlib.Core.Path.{◌≡◌, refl, sym, ap, ◌∙◌}
use mathlib.Core.Bool.{Bool, true, false}
use native.Mathlib.Omega.{arith}
use Rattle.words.proofs.TestLaws.{yes, no}
use Rattle.rules.specs.Site.{is_box}
use Rattle.laws.proofs.FormLaws.{box-is}
use Rattle.laws.proofs.Logic.{Or, left, right, In, same?}
use Rattle.wait.specs.Run.{first_of}
use Rattle.wait.proofs.FirstLaws.{First, none, some, first_says, first-is}

-- one that is not 0 is of 1 to n, and passes
pub first-in : (n : ℕ) (p : ℕ → Bool) → (first_of n p ≡ 0 → ⊥)
    → In (first_of n p) n × (p (first_of n p) ≡ true)
first-in n p nz = go (first_says n p)
  where
    go : First n p (first_of n p) → In (first_of n p) n × (p (first_of n p) ≡ true)
    go (none z off) = absurd (nz z)
    go (some h e off) = (h, e)

-- none below b passes
pub record NoneTo (p : ℕ → Bool) (n b : ℕ) : Type 0 where
  pub some : 1 ≤ b
  pub few : b ≤ n + 1
  pub off : (i : ℕ) → 1 ≤ i → i < b → p i ≡ false

pub none-yet : {p : ℕ → Bool} {n : ℕ} → NoneTo p n 1
none-yet = record {
  some = omega arith;
  few = omega arith;
  off = λ i h l. absurd (omega (arith, h, l));
}

module _ {p : ℕ → Bool} {n b : ℕ} (to : NoneTo p n b) where
  pub box-here : b ≤ n → is_box n b ≡ true
  box-here h = box-is {n = n} {c = b} (to.some, h)

  -- all were looked at
  pub none-all : n < b → 0 ≡ first_of n p
  none-all h =
      sym (first-is (none refl (λ i g. to.off i g.0 (omega (arith, g.1, h)))))

  -- t is what b says
  module _ (h : b ≤ n) {t : Bool} (e : t ≡ p b) where
    pub none_more : t ≡ false → NoneTo p n (b + 1)
    none_more f = record {
      some = omega arith;
      few = omega arith;
      off = λ i g l. go i g l (same? i b);
    }
      where
        go : (i : ℕ) → 1 ≤ i → i < b + 1 → Or (i ≡ b) (i ≡ b → ⊥) → p i ≡ false
        go i g l (left d) = ap p d ∙ no e f
        go i g l (right d) = to.off i g (omega (arith, l, d))

    pub none-stop : t ≡ true → b ≡ first_of n p
    none-stop f = sym (first-is (some (to.some, h) (yes e f) (λ i g l. to.off i g l)))
