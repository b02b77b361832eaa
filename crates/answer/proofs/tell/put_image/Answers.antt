use native.Mathlib.Omega.{arith}
use Rattle.print.proofs.WriteLaws.{then, spelled, at_most}
use Rattle.answer.proofs.TellLaws.{image-text}
use Rattle.answer.proofs.tell.put_image.Goals as goal

pub returns : goal.returns
returns c =
    at_most (omega arith) (spelled (image-text _ _ c.requires.a_value)
    (then c.put_word-p.ensures
    (then c.put_hex-p.ensures c.put_byte.ensures)))
