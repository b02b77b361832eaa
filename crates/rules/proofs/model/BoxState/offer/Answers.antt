-- `rules::model::BoxState::offer` meets its contract.
use Rattle.rules.specs.Steps.{offer}
use Rattle.rules.proofs.model.BoxState.offer.Goals as goal

pub returns : goal.returns
unfolding offer
returns c =
    simp (
      c.settle.ensures,
      c.does.ensures,
      c.unless-v.ensures,
      c.unless-w.ensures,
      c.can_offer.ensures,
    )
