-- `rules::model::BoxState::on_accept` meets its contract.
use Rattle.rules.specs.Mails.{on_accept}
use Rattle.rules.proofs.model.BoxState.on_accept.Goals as goal

pub returns : goal.returns
unfolding on_accept
returns c =
    simp (
      c.settle.ensures,
      c.takes.ensures,
      c.with_box.ensures,
      c.judge_accept-v.ensures,
    )
