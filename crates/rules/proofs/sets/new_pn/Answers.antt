-- `rules::sets::new_pn` meets its contract.
use Rattle.rules.specs.NewPn.{new_pn}
use Rattle.rules.proofs.sets.new_pn.Goals as goal

pub returns : goal.returns
unfolding new_pn
returns c =
    simp
    c.pick.ensures
