-- Things that stand one after another in bytes, stored in rows of lent words.
use Rattle.std.specs.Prelude.{◌≡◌, ℕ, ◌*◌, ◌<◌, List, drop, get_or}
use Rattle.words.specs.Rows.{part}
use Rattle.cells.specs.Cells.{Found}

module _ {A : Type 0} where
  -- the words xs have become ys: their first n rows of w words hold the things l, in order, and
  -- what follows these rows is as it was; d is read past the end of l
  pub record HoldsRows (Holds : List ℕ → A → Type 0) (w n : ℕ) (d : A) (xs ys : List ℕ)
      (l : List A) : Type 0 where
    pub each : (i : ℕ) → i < n → Holds (part ys (i * w) w) (get_or l i d)
    pub rest : drop (n * w) ys ≡ drop (n * w) xs

  -- H holds of whatever thing by form stands at `at`, and r is the place behind it
  abbrev pub StoredIs : (A → List ℕ) → (A → Type 0) → List ℕ → ℕ → (A → Type 0) → ℕ → Type 0
  StoredIs enc Good src at H r = (q : ℕ) (f : Found enc Good src at q) → H f.thing × (r ≡ q)
