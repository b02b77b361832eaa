-- `rules::model::BoxState::can_offer` meets its contract.
use mathlib.Core.Path.{◌∙◌}
use Rattle.rules.proofs.NumberLaws.{same-state}
use Rattle.rules.specs.Steps.{can_offer}
use Rattle.rules.specs.Types.{State}
use Rattle.rules.proofs.model.BoxState.can_offer.Goals as goal

pub returns : goal.returns
unfolding can_offer
returns c =
    simp (
      c.eq.ensures ∙ same-state c.args.self.state State.Active,
      c.is_even.ensures,
    )
