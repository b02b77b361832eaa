-- `rules::model::Kept::best_held` meets its contract.
use Rattle.rules.specs.Steps.{best_held}
use Rattle.rules.proofs.model.Kept.best_held.Goals as goal

pub returns-in_default : goal.returns-in_default
unfolding best_held
returns-in_default c =
    simp (
      c.none.ensures,
      c.in_default.is,
    )

pub returns : goal.returns
unfolding best_held
returns c =
    simp (
      c.under.ensures,
      c.in-Some.is,
    )
