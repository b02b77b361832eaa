use Rattle.journal.proofs.RestLaws.{rest-answered}
use Rattle.journal.proofs.at_rest.journal_rest.Goals as goal

pub returns : goal.returns
returns c =
    rest-answered c.rest-a.ensures
    c.answer_number.ensures
