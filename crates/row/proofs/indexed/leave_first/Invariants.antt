-- i of the agreed records have left the index.
use Rattle.row.proofs.IndexLaws.{Left}
use Rattle.row.proofs.indexed.leave_first.Given as goal

abbrev pub invariant-loop-i : goal.invariant-loop-i
invariant-loop-i l = Left l.j l.initial.row l.i l.row
