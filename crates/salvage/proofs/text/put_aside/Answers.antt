use native.Mathlib.Omega.{arith}
use Rattle.print.proofs.WriteLaws.{then, at_most}
use Rattle.salvage.proofs.text.put_aside.Goals as goal

pub returns : goal.returns
returns c =
    at_most (omega arith)
    (then c.put_bytes-p.ensures
    (then c.put_spot-p.ensures c.put_byte.ensures))
