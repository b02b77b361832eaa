-- The boxes up to b are as the election leaves them.
use Prim.Native.Nat.{◌-◌}
use Rattle.memory.specs.After.{boxes_of, elected_boxes}
use Rattle.memory.proofs.EachLaws.{BoxesUpTo}
use Rattle.memory.proofs.boxes.elect_rows.Given as goal

abbrev pub invariant-loop-b : goal.invariant-loop-b
invariant-loop-b l = BoxesUpTo l.s (elected_boxes l.s l.c (boxes_of l.s l.initial.site))
    l.initial.site (l.b - 1) l.site
