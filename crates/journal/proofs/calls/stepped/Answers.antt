-- `journal::calls::stepped` meets its contract.
use Rattle.journal.proofs.NumberedLaws.{stepped}
use Rattle.journal.proofs.calls.stepped.Goals as goal

pub returns : goal.returns
returns c =
    stepped c.step.ensures c.answer_number.ensures
