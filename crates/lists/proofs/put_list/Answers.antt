-- `lists::put_list` meets its contract.
use native.Mathlib.Omega.{arith}
use Rattle.print.proofs.WriteLaws.{then, at_most}
use Rattle.lists.proofs.put_list.Goals as goal

pub returns : goal.returns
returns c =
    at_most (omega arith)
    (then c.put_byte-p.ensures
    (then c.put_byte-p-2.ensures
    (then c.put_bytes-p.ensures c.put_byte.ensures)))
