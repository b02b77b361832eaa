-- `rules::sets::has` meets its contract.
use Rattle.rules.proofs.PartLaws.{no-box, has-shift}
use Rattle.rules.proofs.sets.has.Goals as goal

pub returns-then-k-eq0 : goal.returns-then-k-eq0
returns-then-k-eq0 c = no-box _ _ c.if-k-eq0.true

pub returns : goal.returns
returns c = has-shift _ _ c.if-k-eq0.false
