-- `rules::model::BoxState::can_collect` meets its contract.
use mathlib.Core.Path.{◌∙◌}
use Rattle.rules.proofs.NumberLaws.{same-phase, same-state}
use Rattle.rules.specs.Steps.{can_collect}
use Rattle.rules.specs.Types.{Phase, State}
use Rattle.rules.proofs.model.BoxState.can_collect.Goals as goal

pub returns : goal.returns
unfolding can_collect
returns c =
    simp (
      c.eq-2.ensures ∙ same-phase c.args.self.phase Phase.SendCollect,
      c.eq.ensures ∙ same-state c.args.self.state State.Recovering,
      c.is_even.ensures,
    )
