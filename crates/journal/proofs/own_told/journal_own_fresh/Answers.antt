-- `journal::own_told::journal_own_fresh` meets its contract.
use Rattle.journal.proofs.NumberedLaws.{told-alone}
use Rattle.journal.proofs.own_told.journal_own_fresh.Goals as goal

pub returns : goal.returns
returns c = told-alone c.fresh.ensures c.answer_number.ensures
