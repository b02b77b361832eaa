-- `index::form::are_linked` meets its contract: behind place i all was right.
use Prim.Native.Nat.{◌+◌, ◌-◌}
use native.Mathlib.Omega.{arith}
use lib.ListN.{length}
use lib.Seq.{drop-length}
use Rattle.words.proofs.TestLaws.{fails, passes}
use Rattle.index.proofs.SweepLaws.{swept_none, sweep_more, sweep_wrong}
use mathlib.Core.Path.{ap}
use mathlib.Core.Bool.{not}
use Rattle.index.proofs.form.are_linked.Goals as goal

pub loop-i-init : goal.loop-i-init
loop-i-init c =
    let rs = c.args.records.now in
    let n = length rs in
    let ix = c.args.ix.now in
    let start = swept_none n (c.args.first + n) ix c.args.heads.now c.requires.heads_value in
    rw (drop-length rs) start

pub returns-then-not-agree : goal.returns-then-not-agree
returns-then-not-agree c =
    sweep_wrong c.args.first c.loop-i.i (c.loop-i.i - 1) c.slot_of-slot.result c.args.records.now
    (omega arith) (omega arith) (omega arith) (omega arith) c.slot_of-slot.ensures.0
    c.loop-i.invariant
    c.loop-i.heads (fails c.agree.ensures (ap not c.if-not-agree.true))

pub loop-i-preserved : goal.loop-i-preserved
loop-i-preserved c =
    sweep_more c.args.first c.loop-i.i (c.loop-i.i - 1) c.slot_of-slot.result c.args.records.now
    (omega arith) (omega arith) (omega arith) (omega arith) c.slot_of-slot.ensures.0
    c.loop-i.invariant
    (passes c.agree.ensures (ap not c.if-not-agree.false))
