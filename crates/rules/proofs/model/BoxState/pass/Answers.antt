-- `rules::model::BoxState::pass` meets its contract.
use Rattle.rules.specs.Last.{uncounted}
use Rattle.rules.proofs.model.BoxState.pass.Goals as goal

pub returns : goal.returns
unfolding uncounted
returns c =
    simp
    c.clear-best.ensures
