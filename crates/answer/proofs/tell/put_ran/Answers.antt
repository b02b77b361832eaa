use native.Mathlib.Omega.{arith}
use Rattle.print.proofs.WriteLaws.{then, at_most}
use Rattle.answer.specs.Text.{run_text}
use Rattle.answer.proofs.tell.put_ran.Goals as goal

pub returns : goal.returns
unfolding run_text
returns c =
    at_most (omega arith)
    (then c.put_bytes-p.ensures
    c.put_used.ensures)
