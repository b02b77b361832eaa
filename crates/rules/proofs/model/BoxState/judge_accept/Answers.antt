-- `rules::model::BoxState::judge_accept` meets its contract.
use mathlib.Core.Bool.{not}
use mathlib.Core.Path.{◌∙◌, ap}
use Rattle.rules.proofs.NumberLaws.{same-phase}
use Rattle.rules.specs.Mails.{accept_verdict}
use Rattle.rules.specs.Types.{Phase}
use Rattle.rules.proofs.model.BoxState.judge_accept.Goals as goal

pub returns : goal.returns
unfolding accept_verdict
returns c =
    simp (
      c.first_cause.ensures,
      c.ne.ensures ∙ ap not (same-phase c.args.self.phase Phase.Begin),
    )
