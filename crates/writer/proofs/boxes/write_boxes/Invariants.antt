-- At each turn the first i boxes are written and
-- entered.
use mathlib.Core.List.{map}
use lib.ListN.{take}
use Rattle.image.specs.Image.{box_body}
use Rattle.writer.specs.Bodies.{boxes_in, Entered}
use Rattle.writer.proofs.boxes.write_boxes.Given as goal

abbrev pub invariant-loop-i : goal.invariant-loop-i
invariant-loop-i l =
    Entered (take l.i (map (box_body l.s.n) (boxes_in l.s l.site))) l.initial.out
    l.k l.at l.out l.p
