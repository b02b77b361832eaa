use Rattle.found.specs.Found.{sender_way}
use Rattle.found.specs.Near.{sender_stride}
use Rattle.found.proofs.WalkLaws.{WalkTo}
use Rattle.found.proofs.mail.walk_senders.Given as goal

abbrev pub invariant-loop-i : goal.invariant-loop-i
invariant-loop-i l = WalkTo (sender_way l.n l.j l.l l.src) sender_stride l.n 0 l.i l.p
