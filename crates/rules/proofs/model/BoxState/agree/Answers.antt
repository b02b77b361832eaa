-- `rules::model::BoxState::agree` meets its contract.
use Rattle.rules.specs.Steps.{agree}
use Rattle.rules.proofs.model.BoxState.agree.Goals as goal

pub returns : goal.returns
unfolding agree
returns c =
    simp (
      c.settle.ensures,
      c.unless-v.ensures,
      c.can_agree.ensures,
      c.does-t.ensures,
      c.others.ensures,
      c.mail_from-m.ensures,
      c.reach-kept.ensures,
    )
