use Rattle.print.proofs.WriteLaws.{one-done, two-done}
use Rattle.print.proofs.put_decimal.Goals as goal

pub returns-then-x-lt10 : goal.returns-then-x-lt10
returns-then-x-lt10 c = one-done c.args.x c.if-x-lt10.true c.put_byte.ensures

pub returns-then-x-lt100 : goal.returns-then-x-lt100
returns-then-x-lt100 c =
    two-done c.args.x c.if-x-lt10.false c.if-x-lt100.true c.put_byte-p.ensures
    c.put_byte-then-x-lt100.ensures
