-- The boxes below a have no mail under way.
use lib.Dec.{ltb}
use Rattle.until.specs.Turns.{receiver_in}
use Rattle.until.proofs.FirstLaws.{NoneTo}
use Rattle.until.proofs.mail.first_sender.Given as goal

abbrev pub invariant-loop-a : goal.invariant-loop-a
invariant-loop-a l = NoneTo (λ k. ltb 0 (receiver_in l.s l.links k)) l.s.n l.a
