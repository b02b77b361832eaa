use Rattle.answer.proofs.ask.find_of.Goals as goal

pub returns-in-Some : goal.returns-in-Some
returns-in-Some c = simp (c.find_at.ensures, c.in-Some.is)

pub returns-in-None : goal.returns-in-None
returns-in-None c = simp c.in-None.is
