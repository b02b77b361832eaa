use mathlib.Core.Path.{refl}
use Rattle.rules.specs.Site.{fresh_head}
use Rattle.row.proofs.fresh_head.Goals as goal

pub returns : goal.returns
unfolding fresh_head
returns c = refl
