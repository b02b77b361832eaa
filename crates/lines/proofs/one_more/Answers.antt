-- `lines::one-more` meets its contract.
use Rattle.rules.proofs.Tests.{tests}
use Rattle.rules.specs.Pick.{pick}
use Rattle.lines.proofs.one_more.Goals as goal

pub returns-then-count-lt4 : goal.returns-then-count-lt4
unfolding pick
returns-then-count-lt4 c = search tests

pub returns-else-count-lt4 : goal.returns-else-count-lt4
unfolding pick
returns-else-count-lt4 c = search tests
