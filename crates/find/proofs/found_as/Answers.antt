-- `find::found_as` meets its contract.
use Rattle.find.proofs.FindLaws.{none_found, number-found}
use Rattle.find.proofs.found_as.Goals as goal

pub returns-then-k-eq0 : goal.returns-then-k-eq0
returns-then-k-eq0 c = none_found _ c.if-k-eq0.true

pub returns : goal.returns
returns c = number-found _ c.if-k-eq0.false
