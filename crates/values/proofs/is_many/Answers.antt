use Rattle.rules.proofs.Tests.{tests}
use Rattle.values.specs.Counts.{count_of}
use borrow.Author.Rules.{rules}
use Rattle.values.proofs.is_many.Goals as goal

pub returns-then-last-gt-MOST_NUMBER : goal.returns-then-last-gt-MOST_NUMBER
unfolding count_of
returns-then-last-gt-MOST_NUMBER c = search tests

pub overflow_add-last : goal.overflow_add-last
overflow_add-last c = search rules

pub returns-then-last-first : goal.returns-then-last-first
unfolding count_of
returns-then-last-first c = search tests

pub overflow_add-result : goal.overflow_add-result
overflow_add-result c = search rules

pub overflow_sub-result : goal.overflow_sub-result
overflow_sub-result c = search rules

pub overflow_add-result-2 : goal.overflow_add-result-2
overflow_add-result-2 c = search rules

pub returns : goal.returns
unfolding count_of
returns c = search tests
