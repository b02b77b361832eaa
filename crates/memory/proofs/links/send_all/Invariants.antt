-- The boxes up to b have their letter.
use Prim.Native.Nat.{◌-◌}
use Rattle.rules.specs.Box.{letter_of}
use Rattle.memory.proofs.SendLaws.{SentUpTo}
use Rattle.memory.proofs.links.send_all.Given as goal

abbrev pub invariant-loop-b : goal.invariant-loop-b
invariant-loop-b l =
    SentUpTo l.s l.set (letter_of l.m l.records) l.initial.links (l.b - 1) l.links
