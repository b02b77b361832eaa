-- `rules::model::BoxState::on_mail` meets its contract.
use Rattle.rules.specs.Mails.{on_mail}
use Rattle.rules.proofs.model.BoxState.on_mail.Goals as goal

pub returns : goal.returns
unfolding on_mail
returns c =
    simp (
      c.settle.ensures,
      c.unless-v.ensures,
      c.is_even.ensures,
      c.of_kind-t.ensures,
    )
