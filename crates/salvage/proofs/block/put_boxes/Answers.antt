use native.Mathlib.Omega.{arith}
use Rattle.salvage.proofs.BodyLaws.{boxes-none, boxes-more, boxes-all}
use Rattle.salvage.proofs.block.put_boxes.Goals as goal

pub loop-i-init : goal.loop-i-init
loop-i-init c =
    boxes-none c.args.image.now c.args.n c.args.j c.args.at
    c.args.out.now c.args.kept.now c.requires.sound.1

pub look-f-requires : goal.look-f-requires
look-f-requires c =
    (c.requires.sound.0, omega arith, omega arith)

pub bounds-kept-i : goal.bounds-kept-i
bounds-kept-i c =
    omega arith

pub put_box-p-requires : goal.put_box-p-requires
put_box-p-requires c =
    (omega arith, omega arith)

pub loop-i-preserved : goal.loop-i-preserved
loop-i-preserved c =
    boxes-more c.args.image.now c.args.n c.args.j c.loop-i.invariant
    c.loop-i-test.true c.requires.sound.0.few c.look-f.ensures
    c.flag.ensures c.put_box-p.ensures

pub shape_of-kept : goal.shape_of-kept
shape_of-kept c =
    let s = c.loop-i.invariant.words in
    omega (arith, s, c.requires.sound.1)

pub shape_of-out : goal.shape_of-out
shape_of-out c = c.loop-i.invariant.wrote.room

pub returns : goal.returns
returns c =
    boxes-all c.args.image.now c.args.n c.args.j c.loop-i.invariant
    c.loop-i-test.false c.requires.sound.0.few
