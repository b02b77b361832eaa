-- `index::form::are_linked` meets its contract: behind place i all was right.
use Prim.Native.Nat.{◌+◌}
use lib.ListN.{drop}
use Rattle.index.specs.Lent.{Swept}
use Rattle.index.proofs.form.are_linked.Given as goal

abbrev pub invariant-loop-i : goal.invariant-loop-i
invariant-loop-i l =
    Swept l.i (l.first + l.i) (drop l.i l.records) l.ix l.heads
