-- `rules::model::BoxState::bounded` meets its contract.
use Rattle.rules.specs.Bounds.{bounded_box}
use Rattle.rules.proofs.model.BoxState.bounded.Goals as goal

pub returns : goal.returns
unfolding bounded_box
returns c = simp c.are_bounded.ensures
