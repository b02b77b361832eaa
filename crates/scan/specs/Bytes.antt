-- Parts of a text, and where a byte stands first.
use Rattle.std.specs.Prelude.{ℕ, suc, List, [], ◌∷◌, Bool, true, false, eqb, take, drop}

-- from place i on and before place j
unfoldable pub slice : ℕ → ℕ → List ℕ → List ℕ
slice i j s = drop i (take j s)

-- 0 where the first byte is the one, else one more than in the rest
unfoldable pub index_after : Bool → ℕ → ℕ
index_after true k = 0
index_after false k = suc k

-- the first place of b, or the length of a text that has none
unfoldable pub index_of : ℕ → List ℕ → ℕ
index_of b [] = 0
index_of b (x ∷ s) = index_after (eqb x b) (index_of b s)
