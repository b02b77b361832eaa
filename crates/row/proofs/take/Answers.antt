-- `row::take` meets its contract.
use Rattle.row.proofs.take.Goals as goal

pub returns : goal.returns
returns c =
    simp (c.copy_part.ensures, c.move_down.ensures)
