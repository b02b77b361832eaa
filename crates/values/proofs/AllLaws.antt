-- What a test of several things says: of all of a list of tests, and of each element of a list.
use mathlib.Core.Path.{◌≡◌, refl, sym, ap, ◌∙◌}
use mathlib.Core.Bool.{Bool, true, false, ◌&&◌, and_assoc, and-true, and-false}
use mathlib.Core.List.{List, [], ◌∷◌, ◌++◌}
use Prim.Native.Nat.{ℕ, zero, suc, ◌+◌, ◌≤◌, ◌<◌}
use native.Mathlib.Numerals.{add-one}
use lib.ListN.{length, take, drop, get_or, drop_of_length-le}
use lib.Seq.{drop-cons}
use Rattle.std.specs.List.{list_all}
use Rattle.rules.specs.Every.{all, each}
use Rattle.rules.proofs.BoundLaws.{first-of, second-of}

-- ---- all of a list of tests

-- Where all pass, test i does ..
pub all-at : (i : ℕ) (bs : List Bool) → all bs ≡ true → get_or bs i true ≡ true
unfolding all
all-at i [] e = refl
all-at zero (b ∷ bs) e = first-of b (all bs) e
all-at (suc i) (b ∷ bs) e = all-at i bs (second-of b (all bs) e)

-- .. and the first k do.
pub all_take : (k : ℕ) (bs : List Bool) → all bs ≡ true → all (take k bs) ≡ true
unfolding all
all_take zero bs e = refl
all_take (suc k) [] e = refl
all_take (suc k) (b ∷ bs) e = rw (first-of b (all bs) e, all_take k bs (second-of b (all bs) e))

pub all_append : (xs ys : List Bool) → all (xs ++ ys) ≡ (all xs && all ys)
unfolding all
all_append [] ys = refl
all_append (x ∷ xs) ys = rw (all_append xs ys, and_assoc)

-- The two tests at the head of a second list can be made last.
pub two-last : (xs ys : List Bool) (c e : Bool)
    → all (all xs ∷ all (c ∷ e ∷ ys) ∷ []) ≡ (all (xs ++ ys) && (c && e))
unfolding all
two-last xs ys true true = rw (all_append xs ys, and-true, and-true)
two-last xs ys true false = rw (and-false, and-false)
two-last xs ys false e = rw (and-false, and-false)

-- The library's word for each element of a list.
pub each_all : {A : Type 0} (p : A → Bool) (xs : List A) → list_all p xs ≡ each p xs
unfolding each
each_all p [] = refl
each_all p (x ∷ xs) = ap (λ (b : Bool). p x && b) (each_all p xs)

-- ---- each element of a list: a scan of xs that is at its element i, on which the test says t

module _ {ℓ} {A : Type ℓ} (p : A → Bool) (d : A) (xs : List A) (i : ℕ) where
  each_at : i < length xs → each p (drop i xs) ≡ (p (get_or xs i d) && each p (drop (i + 1) xs))
  unfolding each
  each_at h = ap (each p) (drop-cons xs i d h) ∙ rw add-one

  -- Those from i on all pass where those behind i do.
  pub each-go : (t : Bool) → i < length xs → t ≡ p (get_or xs i d) → t ≡ true
      → each p (drop i xs) ≡ each p (drop (i + 1) xs)
  each-go t h e g = each_at h ∙ ap (λ (b : Bool). b && each p (drop (i + 1) xs)) (sym e ∙ g)

  -- Those from i on do not all pass.
  pub each-stop : (t : Bool) → i < length xs → t ≡ p (get_or xs i d) → t ≡ false
      → each p (drop i xs) ≡ false
  each-stop t h e g = each_at h ∙ ap (λ (b : Bool). b && each p (drop (i + 1) xs)) (sym e ∙ g)

  -- There is none from the end on.
  pub each-end : length xs ≤ i → each p (drop i xs) ≡ true
  unfolding each
  each-end h = ap (each p) (drop_of_length-le xs h)
