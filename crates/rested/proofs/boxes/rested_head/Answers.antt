use mathlib.Core.Path.{refl}
use Rattle.rules.specs.Site.{fresh_head}
use Rattle.rested.proofs.boxes.rested_head.Goals as goal

pub returns : goal.returns
unfolding fresh_head
returns c = refl
