use Rattle.desk.specs.Near.{near}
use Rattle.desk.proofs.near.is_near.Goals as goal

pub returns : goal.returns
unfolding near
returns c =
    simp (c.apart_of.ensures, c.tick_of.ensures, c.frame_of.ensures)
