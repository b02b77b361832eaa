-- Texts that a byte parts, from the first on.
use Prim.Native.Nat.{ℕ, suc, ◌+◌, ◌≤◌, ◌<◌}
use mathlib.Core.Path.{◌≡◌, refl, ap, ◌∙◌}
use mathlib.Core.Bool.{Bool, true, false}
use mathlib.Core.List.{List, [], ◌∷◌}
use native.Mathlib.Omega.{arith}
use lib.Dec.{eqb}
use lib.ListN.{length, take, drop}
use Rattle.rules.specs.Pick.{pick}
use Rattle.scan.specs.Bytes.{index_after, index_of}
use Rattle.laws.proofs.Logic.{Or, left, right, below?}
use Rattle.lists.specs.Lists.{up_to, behind, ahead, parted_by}

-- the first text, where another follows ..
pub parted-more : (b : ℕ) (s : List ℕ) → index_of b s < length s
    → parted_by b s ≡ up_to b s ∷ parted_by b (behind b s)
unfolding parted_by index_of index_after pick
parted-more b [] h = absurd (omega arith)
parted-more b (x ∷ s) h = go (eqb x b) h (parted-more b s)
  where
    go : (t : Bool) → index_after t (index_of b s) < suc (length s)
        → (index_of b s < length s → parted_by b s ≡ up_to b s ∷ parted_by b (behind b s))
        → pick t ([] ∷ parted_by b s) (ahead x (parted_by b s))
        ≡ take (index_after t (index_of b s)) (x ∷ s)
        ∷ parted_by b (drop (index_after t (index_of b s) + 1) (x ∷ s))
    go true k f = refl
    go false k f =
        ap (ahead x) (f (omega arith))
        ∙ ap (λ m. (x ∷ up_to b s) ∷ parted_by b (drop m (x ∷ s))) (over (index_of b s))
      where
        over : (m : ℕ) → suc (m + 1) ≡ suc m + 1
        over m = omega arith

-- .. and where none does
pub parted-last : (b : ℕ) (s : List ℕ) → length s ≤ index_of b s → parted_by b s ≡ up_to b s ∷ []
unfolding parted_by index_of index_after pick
parted-last b [] h = refl
parted-last b (x ∷ s) h = go (eqb x b) h (parted-last b s)
  where
    go : (t : Bool) → suc (length s) ≤ index_after t (index_of b s)
        → (length s ≤ index_of b s → parted_by b s ≡ up_to b s ∷ [])
        → pick t ([] ∷ parted_by b s) (ahead x (parted_by b s))
        ≡ take (index_after t (index_of b s)) (x ∷ s) ∷ []
    go true k f = absurd (omega arith)
    go false k f = ap (ahead x) (f (omega arith))

-- there is always a first
pub parted-first : (b : ℕ) (s : List ℕ) → (rest : List (List ℕ))
    × (parted_by b s ≡ up_to b s ∷ rest)
parted-first b s = go (below? (index_of b s) (length s))
  where
    go : Or (index_of b s < length s) (length s ≤ index_of b s)
        → (rest : List (List ℕ)) × (parted_by b s ≡ up_to b s ∷ rest)
    go (left h) = (parted_by b (behind b s), parted-more b s h)
    go (right h) = ([], parted-last b s h)
