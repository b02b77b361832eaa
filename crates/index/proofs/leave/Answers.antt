-- `index::leave` meets its contract.
use lib.ListN.{length-set}
use native.Mathlib.Omega.{arith}
use Rattle.index.specs.Lent.{gone}
use Rattle.index.proofs.leave.Goals as goal

pub bounds-ix-slot-3 : goal.bounds-ix-slot-3
bounds-ix-slot-3 c = simp length-set (omega arith)

pub returns : goal.returns
unfolding gone
returns c = rw c.tail_after-tail.ensures
