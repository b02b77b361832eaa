use mathlib.Core.Path.{ap}
use native.Mathlib.Omega.{arith}
use Rattle.print.specs.Decimal.{decimal}
use Rattle.print.proofs.WriteLaws.{then, spelled, at_most}
use Rattle.answer.specs.Text.{run_text}
use Rattle.answer.proofs.tell.put_stopped.Goals as goal

pub put_used-requires : goal.put_used-requires
put_used-requires c =
    omega (
      arith,
      c.put_byte-p.ensures.end,
      c.put_byte-p.ensures.few,
      c.put_byte-p.ensures.room,
      c.put_decimal-p.ensures.end,
      c.put_decimal-p.ensures.few,
      c.put_decimal-p.ensures.room,
      c.put_bytes-p.ensures.end,
      c.put_bytes-p.ensures.few,
      c.put_bytes-p.ensures.room,
      c.requires,
    )

pub returns : goal.returns
unfolding run_text
returns c =
    at_most (omega arith)
    (then c.put_bytes-p.ensures
    (then (spelled (ap decimal c.answer_number-n.ensures)
    c.put_decimal-p.ensures)
    (then c.put_byte-p.ensures c.put_used.ensures)))
