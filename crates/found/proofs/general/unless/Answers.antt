use Rattle.found.proofs.general.unless.Goals as goal

pub returns-then-formed : goal.returns-then-formed
returns-then-formed c = rw c.if-formed.true

pub returns-else-formed : goal.returns-else-formed
returns-else-formed c = rw c.if-formed.false
