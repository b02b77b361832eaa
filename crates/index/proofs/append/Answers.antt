-- `index::append` meets its contract.
use native.Mathlib.Omega.{arith}
use lib.ListN.{length-set}
use Rattle.index.specs.Lent.{appended}
use Rattle.index.proofs.LentLaws.{link-within}
use Rattle.index.proofs.append.Goals as goal

pub offset_bounds-ix-at : goal.offset_bounds-ix-at
offset_bounds-ix-at c = omega (arith, link-within c.requires)

pub bounds-ix-at : goal.bounds-ix-at
bounds-ix-at c = omega (arith, link-within c.requires)

pub bounds-ix-slot-2 : goal.bounds-ix-slot-2
bounds-ix-slot-2 c = simp length-set (omega arith)

pub returns : goal.returns
unfolding appended
returns c = rw c.link_at-at.ensures
