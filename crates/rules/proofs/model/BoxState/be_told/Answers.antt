-- `rules::model::BoxState::be_told` meets its contract.
use Rattle.rules.specs.Last.{told}
use Rattle.rules.proofs.model.BoxState.be_told.Goals as goal

pub returns : goal.returns
unfolding told
returns c =
    simp (
      c.take-kept.ensures,
      c.note-peers.ensures,
    )
