use Rattle.std.proofs.Common.{arith}
use Rattle.print.specs.Text.{refused_text}
use Rattle.print.proofs.WriteLaws.{then, at_most}
use Rattle.print.proofs.put_refused.Goals as goal

pub returns : goal.returns
unfolding refused_text
returns c =
    at_most (omega arith)
    (then c.put_decimal-p.ensures
    (then c.put_bytes-p.ensures (then c.put_decimal-p-2.ensures c.put_byte.ensures)))
