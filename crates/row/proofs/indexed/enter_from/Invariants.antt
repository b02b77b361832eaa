-- The agreed records before place i are in the index.
use Rattle.row.proofs.IndexLaws.{Entered}
use Rattle.row.proofs.indexed.enter_from.Given as goal

abbrev pub invariant-loop-i : goal.invariant-loop-i
invariant-loop-i l = Entered l.j l.initial.row l.i l.row
