-- `rules::parts::higher` meets its contract.
use Rattle.rules.proofs.Tests.{tests}
use Rattle.rules.specs.Parts.{higher}
use Rattle.rules.proofs.parts.higher.Goals as goal

pub returns-then-own-theirs : goal.returns-then-own-theirs
unfolding higher
returns-then-own-theirs c = (search tests, search tests)

pub returns-else-own-theirs : goal.returns-else-own-theirs
unfolding higher
returns-else-own-theirs c = (search tests, search tests)
