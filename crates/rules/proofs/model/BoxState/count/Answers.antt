-- `rules::model::BoxState::count` meets its contract.
use Rattle.rules.specs.Last.{counted}
use Rattle.rules.proofs.model.BoxState.count.Goals as goal

pub returns : goal.returns
unfolding counted
returns c =
    simp (
      c.better-best.ensures,
      c.with_box-answered.ensures,
    )
