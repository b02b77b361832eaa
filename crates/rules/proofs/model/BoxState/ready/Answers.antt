-- `rules::model::BoxState::ready` meets its contract.
use Rattle.rules.specs.Steps.{ready}
use Rattle.rules.proofs.model.BoxState.ready.Goals as goal

pub returns : goal.returns
unfolding ready
returns c =
    simp (
      c.settle.ensures,
      c.unless-v.ensures,
      c.can_ready.ensures,
      c.unless-w.ensures,
      c.pick-t.ensures,
      c.lease.ensures,
      c.start.ensures,
      c.room_next-room.ensures,
      c.has_previous-previous.ensures,
    )
