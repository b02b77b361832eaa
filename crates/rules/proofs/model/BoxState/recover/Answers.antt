-- `rules::model::BoxState::recover` meets its contract.
use Rattle.rules.specs.Steps.{recover}
use Rattle.rules.proofs.model.BoxState.recover.Goals as goal

pub returns : goal.returns
unfolding recover
returns c =
    simp (
      c.settle.ensures,
      c.does.ensures,
      c.unless-v.ensures,
      c.can_recover.ensures,
      c.unless-w.ensures,
      c.promise-kept.ensures,
      c.new_pn-pn.ensures,
    )
