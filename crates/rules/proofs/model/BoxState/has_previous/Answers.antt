-- `rules::model::BoxState::has_previous` meets its contract.
use mathlib.Core.Path.{refl}
use Rattle.rules.specs.Steps.{has_previous}
use Rattle.rules.proofs.model.BoxState.has_previous.Goals as goal

pub returns : goal.returns
unfolding has_previous
returns c = refl
