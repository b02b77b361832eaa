-- `rules::model::Kept::take` meets its contract.
use Rattle.rules.specs.Parts.{took_kept}
use Rattle.rules.proofs.model.Kept.take.Goals as goal

pub returns : goal.returns
unfolding took_kept
returns c =
    simp (
      c.keep.ensures,
      c.reach.ensures,
      c.higher-last.ensures.0,
      c.higher-first.ensures.0,
    )
