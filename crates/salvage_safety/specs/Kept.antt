-- "A kept body is exactly what the reader would read there" (Q-8): a box's body is kept where it is
-- the body of a box by form, and only there; such a box is what the reader of an image by form
-- finds at this place.
use Rattle.std.specs.Prelude.{ℕ, ◌≤◌, ◌≡◌, List}
use Rattle.rules.specs.Sizes.{most_boxes, most_loads}
use Rattle.rules.specs.Box.{Box}
use Rattle.cells.specs.Cells.{Below}
use Rattle.image.specs.Image.{box_body}
use Rattle.image.specs.Parts.{GoodBox}
use Rattle.std.specs.Prelude.{Ok}
use Rattle.found.specs.Found.{box_found}

-- bytes that are the body of box b of n, by form
pub record IsBox (n J b : ℕ) (body : List ℕ) : Type 0 where
  pub box : Box
  pub good : GoodBox n J b box
  pub bytes : box_body n box ≡ body

pub record KeptBox : Type 0 where
  pub read : (n J b : ℕ) → n ≤ most_boxes → J ≤ most_loads → (body : List ℕ) → Below 256 body
      → box_found n J b body ≡ Ok tt → IsBox n J b body
  pub kept : (n J b : ℕ) → n ≤ most_boxes → J ≤ most_loads → (body : List ℕ)
      → IsBox n J b body → box_found n J b body ≡ Ok tt
