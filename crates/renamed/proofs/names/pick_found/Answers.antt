-- `renamed::names::pick_found` meets its contract.
use Rattle.rules.proofs.Tests.{tests}
use Rattle.rules.specs.Pick.{pick}
use Rattle.renamed.proofs.names.pick_found.Goals as goal

pub returns-then-t : goal.returns-then-t
unfolding pick
returns-then-t c = search tests

pub returns-else-t : goal.returns-else-t
unfolding pick
returns-else-t c = search tests
