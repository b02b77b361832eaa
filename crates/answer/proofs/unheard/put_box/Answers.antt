-- `answer::unheard::put_box` meets its contract.
use Rattle.answer.proofs.UnheardLaws.{box_out, box-in}
use mathlib.Core.Path.{ap}
use mathlib.Core.Bool.{not}
use Rattle.answer.proofs.unheard.put_box.Goals as goal

pub returns-then-not-includes_all : goal.returns-then-not-includes_all
returns-then-not-includes_all c =
    box_out c.args.set _ c.bit_of.ensures.value
    c.includes_all.ensures (ap not c.if-not-includes_all.true)

pub returns : goal.returns
returns c =
    box-in c.args.set _ c.bit_of.ensures.value
    c.includes_all.ensures (ap not c.if-not-includes_all.false) c.requires.k_bound
    c.put_byte-p.ensures c.put_byte.ensures
