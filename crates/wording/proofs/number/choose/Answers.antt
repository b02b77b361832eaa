use Rattle.rules.proofs.Tests.{tests}
use Rattle.wording.proofs.number.choose.Goals as goal

pub returns-then-t : goal.returns-then-t
returns-then-t c = search tests

pub returns-else-t : goal.returns-else-t
returns-else-t c = search tests
