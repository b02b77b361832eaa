-- `rules::model::BoxState::can_trim` meets its contract.
use Rattle.rules.specs.Steps.{can_trim}
use Rattle.rules.proofs.model.BoxState.can_trim.Goals as goal

pub returns : goal.returns
unfolding can_trim
returns c =
    simp (
      c.has.ensures,
      c.is_even.ensures,
    )
