-- `rules::model::BoxState::on_begin` meets its contract.
use Rattle.rules.specs.Mails.{on_begin}
use Rattle.rules.proofs.model.BoxState.on_begin.Goals as goal

pub returns : goal.returns
unfolding on_begin
returns c =
    simp (
      c.settle.ensures,
      c.takes-t.ensures,
      c.bit_of.ensures.value,
      c.dropped.ensures,
      c.mail_of-accept.ensures,
      c.judge_begin-v.ensures,
      c.keep-kept.ensures,
      c.higher.ensures.0,
      c.store.ensures,
      c.span-agreed.ensures,
    )
