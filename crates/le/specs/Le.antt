-- A number as k bytes, the least first, and back.
use Rattle.std.specs.Prelude.{◌≡◌, ℕ, zero, suc, ◌+◌, ◌*◌, ◌/◌, ◌%◌, ◌^◌, ◌<◌, List, [], ◌∷◌}

-- The k lowest bytes of x, the least first.
unfoldable pub le : ℕ → ℕ → List ℕ
le zero x = []
le (suc k) x = x % 256 ∷ le k (x / 256)

-- The number whose bytes these are, the least first.
unfoldable pub of_le : List ℕ → ℕ
of_le [] = 0
of_le (b ∷ bs) = of_le bs * 256 + b

-- x is the number that the k bytes bs are: each is had from the other.
pub record Number (k : ℕ) (bs : List ℕ) (x : ℕ) : Type 0 where
  pub read : x ≡ of_le bs
  pub written : le k x ≡ bs
  pub below : x < 256 ^ k
