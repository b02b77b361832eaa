-- The boxes below b do not lead.
use Rattle.memory.specs.After.{boxes_of}
use Rattle.until.proofs.FirstLaws.{NoneTo}
use Rattle.until.proofs.leader.leader.Given as goal

abbrev pub invariant-loop-b : goal.invariant-loop-b
invariant-loop-b l = NoneTo (λ k. (boxes_of l.s l.site k).head.leads) l.s.n l.b
