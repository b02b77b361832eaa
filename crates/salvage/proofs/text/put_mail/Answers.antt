use native.Mathlib.Omega.{arith}
use Rattle.print.proofs.WriteLaws.{then, at_most}
use Rattle.salvage.proofs.text.put_mail.Goals as goal

pub returns : goal.returns
returns c =
    at_most (omega arith)
    (then c.put_link-p.ensures
    (then c.put_bytes-p.ensures
    (then c.put_decimal-p.ensures c.put_byte.ensures)))
