-- `image::letter_groups` meets its contract.
use mathlib.Core.Path.{refl, ap}
use Prim.Native.Nat.{ℕ}
use mathlib.Core.List.{[], ◌∷◌}
use Rattle.letter.specs.Place.{kind_at, first_at, unagreed_at}
use Rattle.cells.specs.Groups.{group}
use Rattle.image.proofs.letter_groups.Goals as goal

pub returns : goal.returns
returns c = (
  ap (λ (m : ℕ). group 4 kind_at 3 ∷ group 4 first_at m ∷ group 4 unagreed_at 2 ∷ [])
      c.first_words-first.ensures.value,
  refl,
)
