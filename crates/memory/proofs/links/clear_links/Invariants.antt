-- The first k links are empty.
use Rattle.memory.proofs.EachLaws.{EmptyUpTo}
use Rattle.memory.proofs.links.clear_links.Given as goal

abbrev pub invariant-loop-k : goal.invariant-loop-k
invariant-loop-k l = EmptyUpTo l.s l.initial.links l.k l.links
