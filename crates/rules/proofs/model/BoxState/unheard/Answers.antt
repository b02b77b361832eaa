-- `rules::model::BoxState::unheard` meets its contract.
use Rattle.rules.specs.Unheard.{unheard_by}
use Rattle.rules.proofs.Tests.{tests}
use Rattle.rules.proofs.model.BoxState.unheard.Goals as goal

pub returns-then-out : goal.returns-then-out
unfolding unheard_by
returns-then-out c = search tests

pub returns : goal.returns
unfolding unheard_by
returns c = search tests
