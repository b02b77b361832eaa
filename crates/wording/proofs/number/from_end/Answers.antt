use Rattle.rules.proofs.Tests.{tests}
use Rattle.wording.specs.Number.{from_end}
use Rattle.wording.proofs.number.from_end.Goals as goal

pub returns-then-n-k : goal.returns-then-n-k
unfolding from_end
returns-then-n-k c = search tests

pub returns-then-k-eq0 : goal.returns-then-k-eq0
unfolding from_end
returns-then-k-eq0 c = search tests

pub returns : goal.returns
unfolding from_end
returns c = search tests
