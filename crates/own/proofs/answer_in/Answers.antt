use Rattle.own.proofs.answer_in.Goals as goal

pub returns-then-accepted-place : goal.returns-then-accepted-place
returns-then-accepted-place c = rw (← c.is_accepted-accepted.ensures, c.if-accepted-place.true)

pub returns : goal.returns
returns c = rw (← c.is_accepted-accepted.ensures, c.if-accepted-place.false)
