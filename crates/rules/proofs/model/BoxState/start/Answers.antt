-- `rules::model::BoxState::start` meets its contract.
use Rattle.rules.specs.Steps.{started}
use Rattle.rules.proofs.model.BoxState.start.Goals as goal

pub returns : goal.returns
unfolding started
returns c =
    simp (
      c.does.ensures,
      c.others.ensures,
      c.mail_from-m.ensures,
      c.bit_of.ensures.value,
      c.store-kept.ensures,
      c.span-agreed.ensures,
    )
