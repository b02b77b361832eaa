use Rattle.found.specs.Found.{pair_way}
use Rattle.found.specs.Near.{link_stride}
use Rattle.found.proofs.WalkLaws.{WalkTo}
use Rattle.found.proofs.mail.walk_sender.Given as goal

abbrev pub invariant-loop-i : goal.invariant-loop-i
invariant-loop-i l = WalkTo (pair_way l.j l.l l.a l.src) link_stride l.n l.at l.i l.p
