-- `rules::model::Best::better` meets its contract.
use Rattle.rules.specs.Last.{bettered}
use Rattle.rules.proofs.model.Best.better.Goals as goal

pub returns-in_default : goal.returns-in_default
unfolding bettered
returns-in_default c =
    simp (
      c.clear.ensures,
      c.in_default.is,
    )

pub returns : goal.returns
unfolding bettered
returns c =
    simp (
      c.pick.ensures,
      c.clear-2.ensures,
      c.improved_by.ensures,
      c.in-Some.is,
    )
