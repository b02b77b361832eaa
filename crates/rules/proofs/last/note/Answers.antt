-- `rules::last::note` meets its contract.
use Rattle.rules.proofs.Tests.{tests}
use Rattle.rules.specs.Last.{noted}
use Rattle.rules.proofs.last.note.Goals as goal

pub returns-then-sender : goal.returns-then-sender
unfolding noted
returns-then-sender c = search tests

pub returns-else-sender : goal.returns-else-sender
unfolding noted
returns-else-sender c = search tests
