-- `rules::turns::first_cause` meets its contract.
use Rattle.rules.proofs.Tests.{tests}
use Rattle.rules.specs.Turns.{first_cause}
use Rattle.rules.proofs.turns.first_cause.Goals as goal

pub returns-then-role : goal.returns-then-role
unfolding first_cause
returns-then-role c = search tests

pub returns-then-phase : goal.returns-then-phase
unfolding first_cause
returns-then-phase c = search tests

pub returns-then-number : goal.returns-then-number
unfolding first_cause
returns-then-number c = search tests

pub returns-then-place : goal.returns-then-place
unfolding first_cause
returns-then-place c = search tests

pub returns : goal.returns
unfolding first_cause
returns c = search tests
