-- `rules::turns::unless` meets its contract.
use Rattle.rules.proofs.Tests.{tests}
use Rattle.rules.specs.Turns.{unless}
use Rattle.rules.proofs.turns.unless.Goals as goal

pub returns-then-t : goal.returns-then-t
unfolding unless
returns-then-t c = search tests

pub returns-else-t : goal.returns-else-t
unfolding unless
returns-else-t c = search tests
