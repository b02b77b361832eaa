-- `journal::calls::journal_fresh` meets its contract.
use Rattle.journal.proofs.NumberedLaws.{freshened}
use Rattle.journal.proofs.calls.journal_fresh.Goals as goal

pub returns : goal.returns
returns c =
    freshened c.fresh.ensures
    c.answer_number.ensures
