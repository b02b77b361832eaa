-- The new proposal number. Only this file and its laws know how it is made.
use Rattle.std.specs.Prelude.{ℕ, ◌+◌, ◌*◌, ◌/◌, ◌%◌, ◌≤◌, ◌<◌, ◌≡◌, ltb}
use Rattle.rules.specs.Pick.{pick}

-- "The new number shall be the smallest above the old one whose last two digits are the rank"
-- (Q-2): a box's rank is its number
pub record IsNew (old rank new : ℕ) : Type 0 where
  pub above : old < new
  pub digits : new % 100 ≡ rank
  pub smallest : (m : ℕ) → old < m → m % 100 ≡ rank → new ≤ m

-- the arithmetic of it, which alone meets it (`laws`, NewPnLaws): the rank in the old number's
-- hundred where the old number stands before it, else in the next hundred
unfoldable pub new_pn : ℕ → ℕ → ℕ
new_pn old rank =
    pick (ltb (old % 100) rank) (old / 100 * 100 + rank) ((old / 100 + 1) * 100 + rank)
