-- `rules::model::BoxState::can_recover` meets its contract.
use mathlib.Core.Path.{◌∙◌}
use Rattle.rules.proofs.NumberLaws.{same-phase, same-state}
use Rattle.rules.specs.Steps.{can_recover}
use Rattle.rules.specs.Types.{Phase, State}
use Rattle.rules.proofs.model.BoxState.can_recover.Goals as goal

pub returns : goal.returns
unfolding can_recover
returns c =
    simp (
      c.count.ensures,
      c.eq-2.ensures ∙ same-state c.args.self.state State.Recovering,
      c.eq.ensures ∙ same-phase c.args.self.phase Phase.Election,
      c.is_even.ensures,
    )
