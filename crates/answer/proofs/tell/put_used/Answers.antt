use native.Mathlib.Omega.{arith}
use Rattle.print.proofs.WriteLaws.{then, at_most}
use Rattle.answer.proofs.tell.put_used.Goals as goal

pub put_byte-requires : goal.put_byte-requires
put_byte-requires c =
    omega (
      arith,
      c.put_hex-p.ensures.end,
      c.put_hex-p.ensures.few,
      c.put_hex-p.ensures.room,
      c.put_byte-p.ensures.end,
      c.put_byte-p.ensures.few,
      c.put_byte-p.ensures.room,
      c.put_decimal-p.ensures.end,
      c.put_decimal-p.ensures.few,
      c.put_decimal-p.ensures.room,
      c.requires,
    )

pub returns : goal.returns
returns c =
    at_most (omega arith)
    (then c.put_decimal-p.ensures
    (then c.put_byte-p.ensures
    (then c.put_hex-p.ensures c.put_byte.ensures)))
