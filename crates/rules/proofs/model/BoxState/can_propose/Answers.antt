-- `rules::model::BoxState::can_propose` meets its contract.
use mathlib.Core.Path.{◌∙◌}
use Rattle.rules.proofs.NumberLaws.{same-phase, same-state}
use Rattle.rules.specs.Steps.{can_propose}
use Rattle.rules.specs.Types.{Phase, State}
use Rattle.rules.proofs.model.BoxState.can_propose.Goals as goal

pub returns : goal.returns
unfolding can_propose
returns c =
    simp (
      c.eq-4.ensures ∙ same-state c.args.self.state State.Active,
      c.is_even.ensures,
      c.eq-3.ensures ∙ same-phase c.args.self.phase Phase.Election,
      c.eq-2.ensures ∙ same-phase c.args.self.phase Phase.LeaseDone,
      c.eq.ensures ∙ same-phase c.args.self.phase Phase.Lease,
    )
