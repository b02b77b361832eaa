-- `rules::model::BoxState::propose` meets its contract.
use Rattle.rules.specs.Steps.{propose}
use Rattle.rules.proofs.model.BoxState.propose.Goals as goal

pub returns : goal.returns
unfolding propose
returns c =
    simp (
      c.settle.ensures,
      c.unless-v.ensures,
      c.can_propose.ensures,
      c.unless-w.ensures,
      c.room_next-room.ensures,
      c.start-t.ensures,
    )
