-- `image::box_groups` meets its contract.
use mathlib.Core.Path.{refl}
use Rattle.image.proofs.box_groups.Goals as goal

pub returns : goal.returns
returns c = (refl, refl)
