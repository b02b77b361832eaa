-- `rules::model::Best::improved_by` meets its contract.
use mathlib.Core.Path.{refl}
use Rattle.rules.specs.Last.{improves}
use Rattle.rules.proofs.model.Best.improved_by.Goals as goal

pub returns : goal.returns
unfolding improves
returns c = refl
