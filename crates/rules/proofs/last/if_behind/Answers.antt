-- `rules::last::if_behind` meets its contract.
use Rattle.rules.specs.Last.{behind}
use Rattle.rules.proofs.last.if_behind.Goals as goal

pub returns : goal.returns
unfolding behind
returns c =
    simp
    c.pick.ensures
