-- `journal::own_box::acted` meets its contract.
use Rattle.journal.proofs.NumberedLaws.{alone}
use Rattle.journal.proofs.own_box.acted.Goals as goal

pub returns : goal.returns
returns c =
    alone c.act-sent.ensures.owned c.act-sent.ensures.still_reads c.is_refusal.ensures
    c.unless.ensures
    c.answer_number.ensures
