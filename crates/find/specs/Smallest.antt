-- "The smallest kept agreed number with that left frame, or none", in statements alone.
use Rattle.std.specs.Prelude.{ℕ, ◌≤◌, ◌≡◌}
use Rattle.rules.specs.Box.{Box, record_at}
use Rattle.rules.specs.Sizes.{left_of}
use Rattle.rules.specs.declared.model.Refusal.{Refusal}
use Rattle.std.specs.Prelude.{Option, Some, None, Result, Ok}

-- number k is agreed at the box, is kept, and has that left frame: "last+1 is not agreed; below
-- first is not kept"
pub record Has (x : Box) (left k : ℕ) : Type 0 where
  pub kept : x.head.kept.first ≤ k
  pub agreed : k ≤ x.head.kept.last
  pub frame : left_of (record_at x.head.kept.first x.records k) ≡ left

pub data Smallest (x : Box) (left : ℕ) : Result (Option ℕ) Refusal → Type 0 where
  number : {k : ℕ} → Has x left k → ((i : ℕ) → Has x left i → k ≤ i)
      → Smallest x left (Ok (Some k))
  none : ((i : ℕ) → Has x left i → ⊥) → Smallest x left (Ok None)
