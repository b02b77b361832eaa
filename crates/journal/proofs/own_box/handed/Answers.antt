-- `journal::own_box::handed` meets its contract.
use Rattle.journal.proofs.NumberedLaws.{alone}
use Rattle.journal.proofs.own_box.handed.Goals as goal

pub returns : goal.returns
returns c =
    alone c.mail-sent.ensures.owned c.mail-sent.ensures.still_reads c.is_refusal.ensures
    c.unless.ensures
    c.answer_number.ensures
