-- Tests on several things: all of a list of tests, each element of a list, every box, how many
-- boxes.
use Rattle.std.specs.Prelude.{ℕ, zero, suc, ◌+◌, Bool, true, ◌&&◌, cond, List, [], ◌∷◌}

-- all of the tests pass
unfoldable pub all : List Bool → Bool
all [] = true
all (b ∷ bs) = b && all bs

-- each element of a list passes
unfoldable pub each {ℓ} : {A : Type ℓ} → (A → Bool) → List A → Bool
each p [] = true
each p (x ∷ xs) = p x && each p xs

-- every number of 1 to n passes
unfoldable pub every : ℕ → (ℕ → Bool) → Bool
every zero p = true
every (suc n) p = p (suc n) && every n p

-- how many numbers of 1 to n pass
unfoldable pub tally : ℕ → (ℕ → Bool) → ℕ
tally zero p = 0
tally (suc n) p = cond (p (suc n)) 1 0 + tally n p
