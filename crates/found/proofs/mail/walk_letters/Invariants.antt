use Rattle.found.specs.Found.{letter_way}
use Rattle.found.specs.Near.{mail_stride}
use Rattle.found.proofs.WalkLaws.{WalkTo}
use Rattle.found.proofs.mail.walk_letters.Given as goal

abbrev pub invariant-loop-i : goal.invariant-loop-i
invariant-loop-i l = WalkTo (letter_way l.j l.a l.b l.src) mail_stride l.count l.at l.i l.p
