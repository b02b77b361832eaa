-- "The smallest kept agreed number with that left frame, or none", in statements alone.
use Rattle.std.specs.Prelude.{◌≡◌, ℕ, ◌+◌, ◌-◌, ◌≤◌, ◌<◌, List, length, get_or}
use Rattle.rules.specs.Sizes.{left_of}

-- x is the answer for the records rs, the first of number k; 0 says that there is none
pub record Answers (left k : ℕ) (rs : List ℕ) (x : ℕ) : Type 0 where
  -- a number is that of a record that is kept, which has that left frame, ..
  pub kept : 1 ≤ x → (k ≤ x) × (x < k + length rs)
  pub has : 1 ≤ x → left_of (get_or rs (x - k) 0) ≡ left
  -- .. no record of a smaller number has it, ..
  pub least : (i : ℕ) → i < length rs → k + i < x → left_of (get_or rs i 0) ≡ left → ⊥
  -- .. and none is said only where no record has it
  pub none : x ≡ 0 → (i : ℕ) → i < length rs → left_of (get_or rs i 0) ≡ left → ⊥
