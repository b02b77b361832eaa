-- Numbers as text: "words parted by one space, decimals without leading zeros".
use Rattle.std.specs.Prelude.{ℕ, zero, suc, ◌+◌, ◌/◌, ◌%◌, cond, List, [], ◌∷◌, ◌++◌, ltb}

-- n below 10^(f+1), its first digit in front
unfoldable pub decimal_of : ℕ → ℕ → List ℕ
decimal_of zero n = (48 + n) ∷ []
decimal_of (suc f) n =
    cond (ltb n 10) ((48 + n) ∷ []) (decimal_of f (n / 10) ++ ((48 + n % 10) ∷ []))

-- every number that a word of 64 bits holds
abbrev pub decimal : ℕ → List ℕ
decimal n = decimal_of 19 n

-- each number after one space
unfoldable pub spaced : List ℕ → List ℕ
spaced [] = []
spaced (x ∷ xs) = (32 ∷ decimal x) ++ spaced xs
