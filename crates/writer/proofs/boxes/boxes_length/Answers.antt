-- Each turn adds the next length.
use Prim.Native.Nat.{◌<◌}
use native.Mathlib.Omega.{arith}
use mathlib.Core.List.{[]}
use lib.ListN.{length}
use Rattle.rules.specs.Site.{fresh_box}
use Rattle.cells.proofs.ChainLaws.{length_none, length-next, length-room, length-all}
use Rattle.writer.specs.Bodies.{boxes_in}
use Rattle.writer.proofs.BoxLaws.{length_boxes_in}
use Rattle.writer.proofs.boxes.boxes_length.Goals.{In-loop-i}
use Rattle.writer.proofs.boxes.boxes_length.Goals as goal

-- The next box is there.
within : (c : In-loop-i) →
    let a = c.args in
    c.loop-i.i < length (boxes_in c.args.s c.args.site.now)
within c =
    omega (arith, length_boxes_in c.args.s c.args.site.now)

pub loop-i-init : goal.loop-i-init
loop-i-init c = length_none _ []

pub box_length-total-requires : goal.box_length-total-requires
box_length-total-requires c = (c.requires.rows_lent, omega arith)

pub overflow_add-total : goal.overflow_add-total
overflow_add-total c =
    let room =
    length-room _ _ c.loop-i.i fresh_box (within (goal.at.overflow_add-total c).In-loop-i)
    c.loop-i.invariant
    c.box_length-total.ensures in
    omega arith

pub loop-i-preserved : goal.loop-i-preserved
loop-i-preserved c =
    length-next _ _ c.loop-i.i fresh_box _ _ (within (goal.at.loop-i-preserved c).In-loop-i)
    c.loop-i.invariant
    c.box_length-total.ensures

pub returns : goal.returns
returns c =
    let few = length_boxes_in c.args.s c.args.site.now in
    length-all _ _ c.loop-i.i _ (omega arith) c.loop-i.invariant
