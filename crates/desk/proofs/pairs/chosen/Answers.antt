-- `desk::pairs::chosen` meets its contract.
use Rattle.std.proofs.Common.{arith}
use Rattle.desk.proofs.DeskLaws.{chosen-short, chosen-zero, chosen-away, chosen_is}
use Rattle.desk.proofs.pairs.chosen.Goals as goal

pub returns-then-desk-lt64 : goal.returns-then-desk-lt64
returns-then-desk-lt64 c =
    chosen-short c.args.frame c.args.desk.now c.if-desk-lt64.true

pub returns-then-frame-eq0 : goal.returns-then-frame-eq0
returns-then-frame-eq0 c =
    chosen-zero c.args.frame c.args.desk.now (omega arith) c.if-frame-eq0.true

pub returns-then-place-ge32 : goal.returns-then-place-ge32
returns-then-place-ge32 c =
    chosen-away c.args.frame c.args.desk.now (omega arith) c.if-frame-eq0.false
    c.place_of-place.ensures.value c.if-place-ge32.true

pub returns : goal.returns
returns c =
    chosen_is c.args.frame c.args.desk.now (omega arith) c.if-frame-eq0.false
    c.place_of-place.ensures.value (omega arith) c.tick_of-tick.ensures
    c.nearest_of.ensures c.right_by.ensures
