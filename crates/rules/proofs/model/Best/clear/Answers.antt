-- `rules::model::Best::clear` meets its contract.
use Rattle.rules.specs.Parts.{cleared}
use Rattle.rules.proofs.model.Best.clear.Goals as goal

pub returns : goal.returns
unfolding cleared
returns c =
    simp (
      c.pick.ensures,
      c.none.ensures,
    )
