-- `desk::sides::withdraw_from` meets its contract.
use Rattle.std.proofs.Common.{arith}
use Rattle.desk.proofs.SideLaws.{withdraw_away, withdraw_done}
use Rattle.desk.proofs.sides.withdraw_from.Goals as goal

pub returns-then-row-place_of : goal.returns-then-row-place_of
returns-then-row-place_of c =
    withdraw_away c.args.frame c.args.row.now c.place_of.ensures.value c.if-row-place_of.true

pub returns : goal.returns
returns c =
    withdraw_done c.args.frame c.args.row.now c.place_of.ensures.value (omega arith)
    c.clear.ensures
