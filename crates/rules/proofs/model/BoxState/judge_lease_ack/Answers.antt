-- `rules::model::BoxState::judge_lease_ack` meets its contract.
use mathlib.Core.Bool.{not}
use mathlib.Core.Path.{◌∙◌, ap}
use Rattle.rules.proofs.NumberLaws.{same-phase}
use Rattle.rules.specs.Mails.{lease_ack_verdict}
use Rattle.rules.specs.Types.{Phase}
use Rattle.rules.proofs.model.BoxState.judge_lease_ack.Goals as goal

pub returns : goal.returns
unfolding lease_ack_verdict
returns c =
    simp (
      c.first_cause.ensures,
      c.ne.ensures ∙ ap not (same-phase c.args.self.phase Phase.Lease),
    )
