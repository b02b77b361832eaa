-- `rules::sets::bit_of` meets its contract.
use Rattle.rules.proofs.Tests.{tests}
use Rattle.rules.specs.Sets.{bit}
use Rattle.rules.proofs.sets.bit_of.Goals as goal

pub returns-in-1-clause-value : goal.returns-in-1-clause-value
unfolding bit
returns-in-1-clause-value c = search tests

pub returns-in-2-clause-value : goal.returns-in-2-clause-value
unfolding bit
returns-in-2-clause-value c = search tests

pub returns-in-3-clause-value : goal.returns-in-3-clause-value
unfolding bit
returns-in-3-clause-value c = search tests

pub returns-in-4-clause-value : goal.returns-in-4-clause-value
unfolding bit
returns-in-4-clause-value c = search tests

pub returns-in-5-clause-value : goal.returns-in-5-clause-value
unfolding bit
returns-in-5-clause-value c = search tests

pub returns-in_default-clause-value : goal.returns-in_default-clause-value
unfolding bit
returns-in_default-clause-value c = search tests
