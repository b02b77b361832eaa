use Rattle.answer.proofs.ask.found.Goals as goal

pub returns-in-Ok : goal.returns-in-Ok
returns-in-Ok c =
    simp c.in-Ok.is
