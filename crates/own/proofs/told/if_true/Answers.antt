use Rattle.own.proofs.told.if_true.Goals as goal

pub returns-then-agreed : goal.returns-then-agreed
returns-then-agreed c = rw c.if-agreed.true

pub returns-else-agreed : goal.returns-else-agreed
returns-else-agreed c = rw c.if-agreed.false
