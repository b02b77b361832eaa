-- `rules::model::BoxState::judge_last` meets its contract.
use mathlib.Core.Bool.{not}
use mathlib.Core.Path.{◌∙◌, ap}
use Rattle.rules.proofs.NumberLaws.{same-phase}
use Rattle.rules.specs.Last.{last_verdict}
use Rattle.rules.specs.Types.{Phase}
use Rattle.rules.proofs.model.BoxState.judge_last.Goals as goal

pub returns : goal.returns
unfolding last_verdict
returns c =
    simp (
      c.first_cause.ensures,
      c.unless-room.ensures,
      c.ne.ensures ∙ ap not (same-phase c.args.self.phase Phase.Collect),
      c.new_pn-fits.ensures,
    )
