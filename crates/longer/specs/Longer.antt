-- Q-14, "The longer of two load lists": what is handed back, and its number.
use Rattle.std.specs.Prelude.{ℕ, ◌-◌, ◌≡◌, Bool, true, false, List, [], ◌∷◌, leb, eqb, length, drop}
use Rattle.std.specs.Borrow.{Bor}
use Rattle.rules.specs.Pick.{pick}
use Rattle.longer.specs.declared.Which.{Which}

-- the first list is the beginning of the second
unfoldable pub begins : List ℕ → List ℕ → Bool
begins [] ys = true
begins (x ∷ xs) [] = false
begins (x ∷ xs) (y ∷ ys) = pick (eqb x y) (begins xs ys) false

-- "whichever list is longer, the first on equal length, provided that the shorter is its beginning"
unfoldable pub longer_of : List ℕ → List ℕ → Which
longer_of xs ys =
    pick (leb (length ys) (length xs))
    (pick (begins ys xs) Which.First Which.Differs)
    (pick (begins xs ys) Which.Second Which.Differs)

-- "22 when a number that both hold differs"; else which of the two lists it is
abbrev pub longer_number : Which → ℕ
longer_number Which.First = 1
longer_number Which.Second = 2
longer_number Which.Differs = 22

-- "Hand back the part": r is the lent list itself, with its place and its length, or none
abbrev pub Part : Which → Bor (List ℕ) → Bor (List ℕ) → Bor (List ℕ) → Type 0
Part Which.First a b r = r ≡ a
Part Which.Second a b r = r ≡ b
Part Which.Differs a b r = r.now ≡ []

-- the numbers of a list that begins with number `own`, from number `first` on
abbrev pub from_first : ℕ → ℕ → List ℕ → List ℕ
from_first own first xs = drop (first - own) xs
