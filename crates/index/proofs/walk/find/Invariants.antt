-- `index::walk::find` meets its contract: the numbers that the walk has passed are not it.
use Prim.Native.Nat.{◌+◌}
use lib.ListN.{length}
use Rattle.index.proofs.WalkLaws.{Walk, to_go}
use Rattle.index.proofs.walk.find.Given as goal

abbrev pub invariant-loop-at : goal.invariant-loop-at
invariant-loop-at l = Walk l.left l.first l.at l.records

abbrev pub decreases-loop-at : goal.decreases-loop-at
decreases-loop-at l = to_go (l.first + length l.records) l.at
