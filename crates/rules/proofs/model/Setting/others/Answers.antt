-- `rules::model::Setting::others` meets its contract.
use Rattle.rules.specs.Parts.{others}
use Rattle.rules.proofs.model.Setting.others.Goals as goal

pub returns : goal.returns
unfolding others
returns c =
    simp
    c.without_box.ensures
