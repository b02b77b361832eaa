-- `lists::read_records` meets its contract.
use Rattle.lists.proofs.ListLaws.{Going}
use Rattle.lists.proofs.read_records.Given as goal

abbrev pub invariant-loop-n : goal.invariant-loop-n
invariant-loop-n l = Going l.s l.initial.words l.words l.i l.n
