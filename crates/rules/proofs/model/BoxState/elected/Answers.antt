-- `rules::model::BoxState::elected` meets its contract.
use Rattle.rules.specs.Steps.{elected}
use Rattle.rules.proofs.model.BoxState.elected.Goals as goal

pub returns : goal.returns
unfolding elected
returns c =
    simp (
      c.pick.ensures,
      c.count-alone.ensures,
    )
