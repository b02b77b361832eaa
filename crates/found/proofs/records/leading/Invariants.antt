use Rattle.found.proofs.LeadingLaws.{LeadingTo}
use Rattle.found.proofs.records.leading.Given as goal

abbrev pub invariant-loop-i : goal.invariant-loop-i
invariant-loop-i l = LeadingTo l.src l.at l.count l.i l.p
