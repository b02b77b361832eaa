-- `rules::model::BoxState::raise` meets its contract.
use Rattle.rules.specs.Last.{raised}
use Rattle.rules.proofs.model.BoxState.raise.Goals as goal

pub returns : goal.returns
unfolding raised
returns c =
    simp (
      c.clear-best.ensures,
      c.promise-kept.ensures,
      c.new_pn.ensures,
    )
