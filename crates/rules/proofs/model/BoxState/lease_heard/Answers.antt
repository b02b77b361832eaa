-- `rules::model::BoxState::lease_heard` meets its contract.
use Rattle.rules.specs.Steps.{lease_heard}
use Rattle.rules.proofs.model.BoxState.lease_heard.Goals as goal

pub returns : goal.returns
unfolding lease_heard
returns c =
    simp (
      c.settle.ensures,
      c.does.ensures,
      c.unless-v.ensures,
      c.can_heard.ensures,
    )
