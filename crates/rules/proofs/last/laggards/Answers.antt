-- `rules::last::laggards` meets its contract.
use Rattle.rules.specs.Last.{lagging}
use Rattle.rules.proofs.last.laggards.Goals as goal

pub returns : goal.returns
unfolding lagging
returns c =
    simp (
      c.if_behind-5.ensures,
      c.if_behind-4.ensures,
      c.if_behind-3.ensures,
      c.if_behind-2.ensures,
      c.if_behind.ensures,
      c.others-others.ensures,
    )
