-- At each turn the first i boxes are written and
-- entered.
use native.Mathlib.Omega.{arith}
use Rattle.writer.proofs.BoxLaws.{length-bodies, bodies-at}
use Rattle.writer.proofs.EntryLaws.{entered-length, entered-start, entered_all, space_next}
use Rattle.writer.proofs.EntryLaws.{entered-next}
use Rattle.writer.proofs.boxes.write_boxes.Goals as goal

pub loop-i-init : goal.loop-i-init
loop-i-init c = entered-start _ c.requires.space

pub overflow_mul-i : goal.overflow_mul-i
overflow_mul-i c =
    let few = length-bodies c.args.s c.args.site.now in
    omega (arith, c.requires.space.entries)

pub overflow_add-k : goal.overflow_add-k
overflow_add-k c =
    let few = length-bodies c.args.s c.args.site.now in
    omega (arith, c.requires.space.entries)

pub enter_box-p-requires : goal.enter_box-p-requires
enter_box-p-requires c =
    let few = length-bodies c.args.s c.args.site.now in record {
      rows_lent = (c.requires.rows_lent, omega arith);
      space = space_next _ c.requires.space c.loop-i.i (omega arith)
          (bodies-at c.args.s c.args.site.now c.loop-i.i (omega arith))
          c.loop-i.invariant;
    }

pub loop-i-preserved : goal.loop-i-preserved
loop-i-preserved c =
    let few = length-bodies c.args.s c.args.site.now in
    entered-next _ c.requires.space c.loop-i.i (omega arith)
    (bodies-at c.args.s c.args.site.now c.loop-i.i (omega arith)) c.loop-i.invariant
    c.enter_box-p.ensures

pub shape_of-out : goal.shape_of-out
shape_of-out c = entered-length c.loop-i.invariant

pub returns : goal.returns
returns c =
    let few = length-bodies c.args.s c.args.site.now in
    entered_all _ c.requires.space c.loop-i.i (omega arith) c.loop-i.invariant
