use Rattle.until.proofs.leader.is_possible.Goals as goal

pub returns-in-Refused : goal.returns-in-Refused
returns-in-Refused c = rw (c.in-Refused.is, c.refusal_number.ensures)
