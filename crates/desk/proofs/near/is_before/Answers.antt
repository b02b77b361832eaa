use Rattle.desk.specs.Near.{before}
use Rattle.desk.proofs.near.is_before.Goals as goal

pub returns : goal.returns
unfolding before
returns c =
    let v-frame = c.frame_of-2.ensures in
    let w-frame = c.frame_of.ensures in
    simp (
      v-frame,
      w-frame,
      c.apart_of-b.ensures,
      c.tick_of-2.ensures,
      c.apart_of-a.ensures,
      c.tick_of.ensures,
    )
