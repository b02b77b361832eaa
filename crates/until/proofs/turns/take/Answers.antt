use Rattle.until.proofs.TookLaws.{came}
use Rattle.until.proofs.turns.take.Goals as goal

pub returns-in-Some : goal.returns-in-Some
returns-in-Some c =
    came c.in-Some.is c.step_formed.ensures
    c.came_of.ensures
