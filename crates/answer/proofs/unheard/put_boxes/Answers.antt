-- `answer::unheard::put_boxes` meets its contract.
use Rattle.print.proofs.WriteLaws.{then}
use Rattle.answer.specs.Unheard.{boxes_text}
use Rattle.answer.proofs.unheard.put_boxes.Goals as goal

pub returns : goal.returns
unfolding boxes_text
returns c =
    then c.put_box-p.ensures
    (then c.put_box-p-2.ensures
    (then c.put_box-p-3.ensures
    (then c.put_box-p-4.ensures c.put_box.ensures)))
