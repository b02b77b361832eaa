use native.Mathlib.Omega.{arith}
use Rattle.print.proofs.WriteLaws.{then, at_most}
use Rattle.answer.specs.Text.{found_text}
use Rattle.answer.proofs.tell.put_none.Goals as goal

pub returns : goal.returns
unfolding found_text
returns c =
    at_most (omega arith)
    (then c.put_bytes-p.ensures c.put_byte.ensures)
