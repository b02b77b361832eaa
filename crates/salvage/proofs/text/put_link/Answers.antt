use native.Mathlib.Omega.{arith}
use Rattle.print.proofs.WriteLaws.{then, at_most}
use Rattle.salvage.proofs.text.put_link.Goals as goal

pub returns : goal.returns
returns c =
    at_most (omega arith)
    (then c.put_decimal-p.ensures
    (then c.put_byte-p.ensures
    (then c.put_decimal-p-2.ensures c.put_byte.ensures)))
