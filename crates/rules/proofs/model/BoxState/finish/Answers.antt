-- `rules::model::BoxState::finish` meets its contract.
use Rattle.rules.specs.Steps.{finish}
use Rattle.rules.proofs.model.BoxState.finish.Goals as goal

pub returns : goal.returns
unfolding finish
returns c =
    simp (
      c.settle.ensures,
      c.lease.ensures,
      c.unless-v.ensures,
      c.can_finish.ensures,
    )
