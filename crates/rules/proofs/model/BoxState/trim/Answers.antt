-- `rules::model::BoxState::trim` meets its contract.
use Rattle.rules.specs.Steps.{trim}
use Rattle.rules.proofs.model.BoxState.trim.Goals as goal

pub returns : goal.returns
unfolding trim
returns c =
    simp (
      c.settle.ensures,
      c.does.ensures,
      c.dropped.ensures,
      c.keep-kept.ensures,
      c.unless-v.ensures,
      c.can_trim-can.ensures,
    )
