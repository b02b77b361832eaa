-- `desk::sides::give_in` meets its contract.
use Rattle.std.proofs.Common.{arith}
use Rattle.desk.proofs.SideLaws.{give_waits, give_full, give_done}
use Rattle.desk.proofs.sides.give_in.Goals as goal

pub returns-then-place_of-row : goal.returns-then-place_of-row
returns-then-place_of-row c =
    give_waits c.args.frame c.args.row.now c.place_of.ensures.value c.args.tick
    c.if-place_of-row.true

pub returns-then-row-free : goal.returns-then-row-free
returns-then-row-free c =
    give_full c.args.frame c.args.tick c.args.row.now c.place_of.ensures.value (omega arith)
    c.place_of-free.ensures.value c.if-row-free.true

pub returns : goal.returns
returns c =
    give_done c.args.frame c.args.tick c.args.row.now c.place_of.ensures.value (omega arith)
    c.place_of-free.ensures.value (omega arith)
