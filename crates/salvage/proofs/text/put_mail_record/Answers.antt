use native.Mathlib.Omega.{arith}
use Rattle.print.proofs.WriteLaws.{then, at_most}
use Rattle.salvage.proofs.text.put_mail_record.Goals as goal

pub returns : goal.returns
returns c =
    at_most (omega arith)
    (then c.put_mail-p.ensures c.put_record.ensures)
