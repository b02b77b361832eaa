-- `rules::model::BoxState::lease` meets its contract.
use Rattle.rules.specs.Steps.{leased}
use Rattle.rules.proofs.model.BoxState.lease.Goals as goal

pub returns : goal.returns
unfolding leased
returns c =
    simp (
      c.does.ensures,
      c.others.ensures,
      c.mail_of-m.ensures,
      c.bit_of.ensures.value,
    )
