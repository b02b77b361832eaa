-- `lines::grow` meets its contract.
use Rattle.rules.proofs.Tests.{tests}
use Rattle.lines.specs.Read.{grown}
use Rattle.lines.proofs.grow.Goals as goal

pub returns-then-b-lt48 : goal.returns-then-b-lt48
unfolding grown
returns-then-b-lt48 c = search tests

pub returns-then-b-gt57 : goal.returns-then-b-gt57
unfolding grown
returns-then-b-gt57 c = search tests

pub returns-then-begun-value : goal.returns-then-begun-value
unfolding grown
returns-then-begun-value c = search tests

pub returns-then-v-gt4294967295 : goal.returns-then-v-gt4294967295
unfolding grown
returns-then-v-gt4294967295 c = search tests

pub returns : goal.returns
unfolding grown
returns c = search tests
