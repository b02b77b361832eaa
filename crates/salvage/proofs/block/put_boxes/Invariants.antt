use Rattle.salvage.proofs.BodyLaws.{BoxesTo}
use Rattle.salvage.proofs.block.put_boxes.Given as goal

abbrev pub invariant-loop-i : goal.invariant-loop-i
invariant-loop-i l = BoxesTo l.image l.n l.j l.at l.initial.out l.out l.kept l.i l.p
