-- `renamed::judge::one-more` meets its contract.
use Rattle.rules.proofs.Tests.{tests}
use Rattle.renamed.specs.Judge.{one_more}
use Rattle.renamed.proofs.judge.one_more.Goals as goal

pub returns-then-k-lt4294967296 : goal.returns-then-k-lt4294967296
unfolding one_more
returns-then-k-lt4294967296 c = search tests

pub returns : goal.returns
unfolding one_more
returns c = search tests
