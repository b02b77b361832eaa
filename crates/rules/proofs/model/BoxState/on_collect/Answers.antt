-- `rules::model::BoxState::on_collect` meets its contract.
use Rattle.rules.specs.Mails.{on_collect}
use Rattle.rules.proofs.model.BoxState.on_collect.Goals as goal

pub returns : goal.returns
unfolding on_collect
returns c =
    simp (
      c.settle.ensures,
      c.takes-t.ensures,
      c.bit_of.ensures.value,
      c.mail_from-last.ensures,
      c.first_cause-v.ensures,
      c.promise-kept.ensures,
      c.max-pn.ensures,
      c.unagreed-unagreed.ensures,
    )
