-- `journal::own_told::journal_own_elected` meets its contract.
use Rattle.journal.proofs.NumberedLaws.{told-alone}
use Rattle.journal.proofs.own_told.journal_own_elected.Goals as goal

pub returns : goal.returns
returns c = told-alone c.elected.ensures c.answer_number.ensures
