use mathlib.Core.Path.{ap}
use Rattle.print.specs.Decimal.{decimal}
use Rattle.print.proofs.WriteLaws.{then, spelled}
use Rattle.answer.proofs.TellLaws.{refusal-text}
use Rattle.answer.proofs.tell.put_refusal.Goals as goal

pub returns : goal.returns
returns c =
    spelled (refusal-text _ _ c.requires.a_value) (then c.put_word-p.ensures (then
    (spelled (ap decimal c.answer_number-n.ensures)
    c.put_decimal-p.ensures) c.put_byte.ensures))
