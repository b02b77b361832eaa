-- `rules::model::BoxState::can_ready` meets its contract.
use mathlib.Core.Path.{◌∙◌}
use Rattle.rules.proofs.NumberLaws.{same-phase}
use Rattle.rules.specs.Steps.{can_ready}
use Rattle.rules.specs.Types.{Phase}
use Rattle.rules.proofs.model.BoxState.can_ready.Goals as goal

pub returns : goal.returns
unfolding can_ready
returns c =
    simp (
      c.eq.ensures ∙ same-phase c.args.self.phase Phase.Collect,
      c.is_even.ensures,
    )
