use native.Mathlib.Omega.{arith}
use Rattle.print.proofs.WriteLaws.{then, at_most}
use Rattle.salvage.proofs.text.put_count.Goals as goal

pub returns : goal.returns
returns c =
    at_most (omega arith) (then c.put_link-p.ensures c.put_bytes.ensures)
