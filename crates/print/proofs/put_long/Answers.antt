use Rattle.print.proofs.WriteLaws.{decimal-done}
use Rattle.print.proofs.put_long.Goals as goal

pub returns : goal.returns
returns c =
    decimal-done _ _ _ c.decimal-n.ensures.in_bounds.1 c.decimal-n.ensures.len
    c.decimal-n.ensures.digits
    c.put_first.ensures
