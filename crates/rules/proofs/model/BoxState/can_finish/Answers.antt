-- `rules::model::BoxState::can_finish` meets its contract.
use mathlib.Core.Path.{◌∙◌}
use Rattle.rules.proofs.NumberLaws.{same-phase, same-state}
use Rattle.rules.specs.Steps.{can_finish}
use Rattle.rules.specs.Types.{Phase, State}
use Rattle.rules.proofs.model.BoxState.can_finish.Goals as goal

pub returns : goal.returns
unfolding can_finish
returns c =
    simp (
      c.eq-2.ensures ∙ same-phase c.args.self.phase Phase.Commit,
      c.eq.ensures ∙ same-state c.args.self.state State.Refresh,
      c.is_even.ensures,
    )
