-- Parts of a list, and rows of one width: how lent words are cut and read.
use Rattle.std.specs.Prelude.{ℕ, zero, suc, List, [], ◌∷◌, ◌++◌, take, drop}

module _ {ℓ} {A : Type ℓ} where
  -- The k elements of xs from a on.
  abbrev pub part : List A → ℕ → ℕ → List A
  part xs a k = take k (drop a xs)

  -- xs with its k elements from a on replaced by ys: the form in which a lent part comes back.
  abbrev pub splice : List A → ℕ → ℕ → List A → List A
  splice xs a k ys = take a xs ++ (ys ++ drop k (drop a xs))

  -- The first n rows of xs, of w elements each.
  unfoldable pub rows : ℕ → ℕ → List A → List (List A)
  rows w zero xs = []
  rows w (suc n) xs = take w xs ∷ rows w n (drop w xs)
