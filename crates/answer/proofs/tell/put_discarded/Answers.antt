use Rattle.print.proofs.WriteLaws.{then}
use Rattle.answer.proofs.tell.put_discarded.Goals as goal

pub returns : goal.returns
returns c =
    then c.put_bytes-p.ensures
    c.put_cause.ensures
