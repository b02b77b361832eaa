-- `rules::model::BoxState::on_lease_ack` meets its contract.
use Rattle.rules.specs.Mails.{on_lease_ack}
use Rattle.rules.proofs.model.BoxState.on_lease_ack.Goals as goal

pub returns : goal.returns
unfolding on_lease_ack
returns c =
    simp (
      c.settle.ensures,
      c.takes.ensures,
      c.with_box.ensures,
      c.judge_lease_ack-v.ensures,
    )
