-- `rules::model::BoxState::lease_is_out` meets its contract.
use mathlib.Core.Path.{◌∙◌}
use Rattle.rules.proofs.NumberLaws.{same-phase}
use Rattle.rules.specs.Unheard.{lease_is_out}
use Rattle.rules.specs.Types.{Phase}
use Rattle.rules.proofs.model.BoxState.lease_is_out.Goals as goal

pub returns : goal.returns
unfolding lease_is_out
returns c =
    simp (
      c.is_even.ensures,
      c.eq-2.ensures ∙ same-phase c.args.self.phase Phase.LeaseDone,
      c.eq.ensures ∙ same-phase c.args.self.phase Phase.Lease,
    )
