-- A branch on a test: r is what the code has asked, b what the contract of the call says of it. And
-- a test of each number of a range.
use mathlib.Core.Path.{◌≡◌, refl, sym, ◌∙◌}
use mathlib.Core.Bool.{Bool, true, false, not}
use Prim.Native.Nat.{ℕ, zero, suc, ◌+◌, ◌≤◌, ◌<◌}
use native.Mathlib.Omega.{arith}
use lib.Dec.{eqb}
use borrow.Author.Tests.{not-true, not-false, eqb-true, eqb-false}
use Rattle.std.specs.List.{list_all, range_with_len}
use Rattle.std.proofs.lemmas.Bool.{and_parts}

module _ {r b : Bool} (e : r ≡ b) where
  -- `if r`: it is taken, or left
  pub yes : r ≡ true → b ≡ true
  yes h = sym e ∙ h

  pub no : r ≡ false → b ≡ false
  no h = sym e ∙ h

  -- `if !r`: it is taken where the test fails, and left where it passes
  pub fails : not r ≡ true → b ≡ false
  fails h = sym e ∙ not-true r h

  pub passes : not r ≡ false → b ≡ true
  passes h = sym e ∙ not-false r h

-- ---- a test of each number of a range

module _ (p : ℕ → Bool) where
  -- Where each number passes, all do ..
  pub each-range : (a n : ℕ) → ((s : ℕ) → a ≤ s → s < a + n → p s ≡ true)
      → list_all p (range_with_len a n) ≡ true
  each-range a zero h = refl
  each-range a (suc n) h =
      rw (
        h a (omega arith) (omega arith),
        each-range (a + 1) n (λ s l m. h s (omega (arith, l)) (omega (arith, m))),
      ) refl

  -- .. and where all do, each does.
  pub range-each : (a n : ℕ) → list_all p (range_with_len a n) ≡ true
      → (s : ℕ) → a ≤ s → s < a + n → p s ≡ true
  range-each a zero e s l m = absurd (omega (arith, l, m))
  range-each a (suc n) e s l m =
      let both = and_parts (p a) _ e in
      go (eqb a s) refl both.0 (λ g. range-each (a + 1) n both.1 s g (omega (arith, m)))
    where
      go : (t : Bool) → eqb a s ≡ t → p a ≡ true → (a + 1 ≤ s → p s ≡ true) → p s ≡ true
      go true f here later = rw (← eqb-true a s f) here
      go false f here later =
          let other : a ≡ s → ⊥ = eqb-false a s f in
          later (omega (arith, l, other))
