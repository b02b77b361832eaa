-- `rules::turns::pick` meets its contract.
use Rattle.rules.proofs.Tests.{tests}
use Rattle.rules.proofs.turns.pick.Goals as goal

pub returns-then-t : goal.returns-then-t
returns-then-t g c = search tests

pub returns-else-t : goal.returns-else-t
returns-else-t g c = search tests
