-- `lines::Numbers::next` meets its contract.
use Rattle.rules.proofs.Tests.{tests}
use Rattle.lines.specs.Read.{byte_read}
use Rattle.lines.proofs.Numbers.next.Goals as goal

pub returns-then-b-eq32 : goal.returns-then-b-eq32
unfolding byte_read
returns-then-b-eq32 c = search tests

pub returns-else-b-eq32 : goal.returns-else-b-eq32
unfolding byte_read
returns-else-b-eq32 c = search tests
