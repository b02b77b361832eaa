-- Tests: what tests that passed say, and how tests are made to pass.
use mathlib.Core.Path.{◌≡◌, refl, sym, ap}
use mathlib.Core.Bool.{Bool, true, false, ◌&&◌, ◌||◌}
use mathlib.Core.List.{List, [], ◌∷◌, ◌++◌, map}
use Rattle.rules.specs.Every.{each}
use Rattle.laws.proofs.Logic.{both-no, and_yes, and_both}

-- ---- one test and two

pub not_yes : (b : Bool) → (b ≡ true → ⊥) → false ≡ b
not_yes true f = absurd (f refl)
not_yes false f = refl

-- Two tests of which each passes where the other does are one test.
pub same_test : (b c : Bool) → (b ≡ true → c ≡ true) → (c ≡ true → b ≡ true) → b ≡ c
same_test true c f g = sym (f refl)
same_test false true f g = g refl
same_test false false f g = refl

pub or_else : (a b : Bool) → (a || b) ≡ true → a ≡ false → b ≡ true
or_else true b e f = absurd (both-no refl f)
or_else false b e f = e

-- ---- each element of a list

module _ {ℓ} {A : Type ℓ} (p : A → Bool) where
  pub each_none : each p [] ≡ true
  unfolding each
  each_none = refl

  pub each-cons : (x : A) (l : List A) → each p (x ∷ l) ≡ (p x && each p l)
  unfolding each
  each-cons x l = refl

  pub each_snoc : (l : List A) (x : A) → each p l ≡ true → p x ≡ true
      → each p (l ++ (x ∷ [])) ≡ true
  unfolding each
  each_snoc [] x e h = and_both h refl
  each_snoc (y ∷ l) x e h =
      let q = and_yes (p y) (each p l) e in and_both q.0 (each_snoc l x q.1 h)

  pub each_map {κ} : {B : Type κ} (f : B → A) (l : List B)
      → each p (map f l) ≡ each (λ x. p (f x)) l
  unfolding each
  each_map f [] = refl
  each_map f (x ∷ l) = ap (λ (b : Bool). p (f x) && b) (each_map f l)

-- A test that an element passes where it passes two others.
module _ {ℓ} {A : Type ℓ} (p q t : A → Bool) where
  pub each_both : ((x : A) → p x ≡ true → q x ≡ true → t x ≡ true)
      → (l : List A) → each p l ≡ true → each q l ≡ true → each t l ≡ true
  unfolding each
  each_both f [] d e = refl
  each_both f (x ∷ l) d e =
      let u = and_yes (p x) (each p l) d in
      let v = and_yes (q x) (each q l) e in
      and_both (f x u.0 v.0) (each_both f l u.1 v.1)
