-- `rules::model::BoxState::collect` meets its contract.
use Rattle.rules.specs.Steps.{collect}
use Rattle.rules.proofs.model.BoxState.collect.Goals as goal

pub returns : goal.returns
unfolding collect
returns c =
    simp (
      c.settle.ensures,
      c.does.ensures,
      c.others.ensures,
      c.mail_of-m.ensures,
      c.bit_of.ensures.value,
      c.unless-v.ensures,
      c.can_collect.ensures,
      c.best_held-best.ensures,
    )
