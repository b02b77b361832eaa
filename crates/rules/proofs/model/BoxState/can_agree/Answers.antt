-- `rules::model::BoxState::can_agree` meets its contract.
use mathlib.Core.Path.{◌∙◌}
use Rattle.rules.proofs.NumberLaws.{same-phase, same-state}
use Rattle.rules.specs.Steps.{can_agree}
use Rattle.rules.specs.Types.{Phase, State}
use Rattle.rules.proofs.model.BoxState.can_agree.Goals as goal

pub returns : goal.returns
unfolding can_agree
returns c =
    simp (
      c.is_some.ensures,
      c.includes_all.ensures,
      c.eq-3.ensures ∙ same-phase c.args.self.phase Phase.Begin,
      c.is_even.ensures,
      c.eq-2.ensures ∙ same-state c.args.self.state State.UpdatingPrevious,
      c.eq.ensures ∙ same-state c.args.self.state State.Updating,
    )
