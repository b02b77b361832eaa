-- `rules::model::BoxState::can_heard` meets its contract.
use mathlib.Core.Path.{◌∙◌}
use Rattle.rules.proofs.NumberLaws.{same-phase}
use Rattle.rules.specs.Steps.{can_heard}
use Rattle.rules.specs.Types.{Phase}
use Rattle.rules.proofs.model.BoxState.can_heard.Goals as goal

pub returns : goal.returns
unfolding can_heard
returns c =
    simp (
      c.includes_all.ensures,
      c.eq.ensures ∙ same-phase c.args.self.phase Phase.Lease,
      c.is_even.ensures,
    )
