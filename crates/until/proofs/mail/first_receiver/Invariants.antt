-- Box a's links to the boxes below b hold no mail.
use Rattle.until.specs.Turns.{mail_on}
use Rattle.until.proofs.FirstLaws.{NoneTo}
use Rattle.until.proofs.mail.first_receiver.Given as goal

abbrev pub invariant-loop-b : goal.invariant-loop-b
invariant-loop-b l = NoneTo (mail_on l.s l.links l.a) l.s.n l.b
