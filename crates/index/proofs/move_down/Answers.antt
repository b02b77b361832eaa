-- `index::move_down` meets its contract.
use Rattle.index.specs.Lent.{moved}
use Rattle.index.proofs.move_down.Goals as goal

pub returns : goal.returns
unfolding moved
returns c = c.copy_within.ensures
