-- Each turn adds the next length.
use mathlib.Core.Path.{◌≡◌}
use lib.ListN.{length, take}
use Rattle.cells.specs.Cells.{chain}
use Rattle.image.specs.Image.{box_body}
use Rattle.writer.specs.Bodies.{boxes_in}
use Rattle.writer.proofs.boxes.boxes_length.Given as goal

abbrev pub invariant-loop-i : goal.invariant-loop-i
invariant-loop-i l =
    l.total ≡ length (chain (box_body l.s.n) (take l.i (boxes_in l.s l.site)))
