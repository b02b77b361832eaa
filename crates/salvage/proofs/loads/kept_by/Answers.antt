use mathlib.Core.Path.{refl}
use native.Mathlib.Omega.{arith}
use Rattle.salvage.specs.Tally.{flagged}
use Rattle.salvage.proofs.TableLaws.{sound-is}
use Rattle.salvage.proofs.LoadLaws.{tally-none, tally-more, tally-all, flag-here}
use Rattle.salvage.proofs.loads.kept_by.Goals as goal

pub loop-i-init : goal.loop-i-init
loop-i-init c =
    tally-none (flagged c.args.kept.now) c.args.image.now
    c.args.n c.args.k

pub body-requires : goal.body-requires
body-requires c =
    let s = sound-is c.args.image.now c.requires.image_value.0 in
    let l = s.least in
    (c.requires.image_value.0, omega arith, omega arith)

pub kept_in-r-requires : goal.kept_in-r-requires
kept_in-r-requires c =
    (c.requires.n_le_most_boxes.0, c.requires.n_le_most_boxes.2)

pub add-t-requires : goal.add-t-requires
add-t-requires c = omega arith

pub loop-i-preserved : goal.loop-i-preserved
loop-i-preserved c =
    tally-more (flagged c.args.kept.now) c.args.image.now c.args.n
    c.args.k c.loop-i.invariant c.loop-i-test.true
    (flag-here c.args.kept.now c.args.image.now c.args.n c.args.k
    c.loop-i.i refl c.body.ensures c.kept_in-r.ensures)
    c.add-t.ensures.value c.add-t.ensures.many_bound

pub returns : goal.returns
returns c = record {
  value = tally-all (flagged c.args.kept.now) c.args.image.now c.args.n
      c.args.k c.loop-i.invariant c.loop-i-test.false;
  many_le_most_boxes = omega arith;
}
