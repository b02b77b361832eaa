use native.Mathlib.Omega.{arith}
use Rattle.print.proofs.WriteLaws.{at_most}
use Rattle.salvage.specs.Tally.{flagged}
use Rattle.salvage.proofs.LinesLaws.{lines_none, lines_more, lines_end, lines-all}
use Rattle.salvage.proofs.KeptLaws.{fit-few}
use Rattle.salvage.proofs.block.put_loads.Goals as goal

pub loop-k-init : goal.loop-k-init
loop-k-init c =
    lines_none (flagged c.args.kept.now) c.args.image.now c.args.n
    c.args.at c.args.out.now

pub next_number-q-requires : goal.next_number-q-requires
next_number-q-requires c = record {
  image_value = (c.requires.loads_fit.table.table, c.requires.loads_fit.table.boxes);
  n_le_most_boxes = (c.requires.loads_fit.table.few, c.requires.loads_fit.flags.words, omega arith);
}

pub shape_of-out-then-q-ge-PAST : goal.shape_of-out-then-q-ge-PAST
shape_of-out-then-q-ge-PAST c = c.loop-k.invariant.wrote.room

pub returns-then-q-ge-PAST : goal.returns-then-q-ge-PAST
returns-then-q-ge-PAST c =
    let w = c.loop-k.invariant in
    let most = fit-few c.requires.loads_fit in
    at_most (omega arith)
    (lines_end (flagged c.args.kept.now) c.args.image.now c.args.n w
    c.next_number-q.ensures.skips_all c.if-q-ge-PAST.true)

pub kept_by-t-requires : goal.kept_by-t-requires
kept_by-t-requires c = record {
  image_value = (c.requires.loads_fit.table.table, c.requires.loads_fit.table.boxes);
  n_le_most_boxes = (c.requires.loads_fit.table.few, c.requires.loads_fit.flags.words, omega arith);
}

pub put_load-p-requires : goal.put_load-p-requires
put_load-p-requires c =
    let most = fit-few c.requires.loads_fit in
    (omega arith, omega arith, c.kept_by-t.ensures.many_le_most_boxes)

pub loop-k-smaller : goal.loop-k-smaller
loop-k-smaller c =
    omega arith

pub loop-k-preserved : goal.loop-k-preserved
loop-k-preserved c =
    lines_more (flagged c.args.kept.now) c.args.image.now c.args.n
    c.loop-k.invariant c.next_number-q.ensures.skips_all (omega arith)
    c.kept_by-t.ensures.value c.put_load-p.ensures

pub shape_of-out : goal.shape_of-out
shape_of-out c = c.loop-k.invariant.wrote.room

pub returns : goal.returns
returns c =
    let w = c.loop-k.invariant in
    let most = fit-few c.requires.loads_fit in
    at_most (omega arith)
    (lines-all (flagged c.args.kept.now) c.args.image.now c.args.n w
    c.loop-k-test.false)
