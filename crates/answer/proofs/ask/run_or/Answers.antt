use Rattle.answer.proofs.ask.run_or.Goals as goal

pub returns-in-Some : goal.returns-in-Some
returns-in-Some c = simp c.in-Some.is

pub returns-in-None : goal.returns-in-None
returns-in-None c = simp c.in-None.is
