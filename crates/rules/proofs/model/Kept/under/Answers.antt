-- `rules::model::Kept::under` meets its contract.
use Rattle.rules.specs.Parts.{under_of}
use Rattle.rules.proofs.model.Kept.under.Goals as goal

pub returns : goal.returns
unfolding under_of
returns c =
    simp
    c.pick.ensures
