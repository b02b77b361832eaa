-- `rules::model::BoxState::on_lease` meets its contract.
use Rattle.rules.specs.Mails.{on_lease}
use Rattle.rules.proofs.model.BoxState.on_lease.Goals as goal

pub returns : goal.returns
unfolding on_lease
returns c =
    simp (
      c.settle.ensures,
      c.takes-t.ensures,
      c.bit_of.ensures.value,
      c.mail_of-ack.ensures,
      c.first_cause-v.ensures,
    )
