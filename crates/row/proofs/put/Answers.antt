-- `row::put` meets its contract.
use Rattle.row.proofs.put.Goals as goal

pub returns : goal.returns
returns c = simp c.move_down.ensures
