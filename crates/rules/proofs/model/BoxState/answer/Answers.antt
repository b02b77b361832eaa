-- `rules::model::BoxState::answer` meets its contract.
use Rattle.rules.specs.Last.{replied}
use Rattle.rules.proofs.model.BoxState.answer.Goals as goal

pub returns : goal.returns
unfolding replied
returns c =
    simp (
      c.pick.ensures,
      c.pick-rest.ensures,
      c.pass-below.ensures,
      c.count-equal.ensures,
      c.raise-above.ensures,
    )
