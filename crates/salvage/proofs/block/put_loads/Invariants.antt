use Prim.Native.Nat.{◌+◌, ◌-◌}
use Rattle.rules.specs.Sizes.{most_number}
use Rattle.salvage.specs.Tally.{flagged}
use Rattle.salvage.proofs.LinesLaws.{LinesTo}
use Rattle.salvage.proofs.block.put_loads.Given as goal

abbrev pub invariant-loop-k : goal.invariant-loop-k
invariant-loop-k l = LinesTo (flagged l.kept) l.image l.n l.at l.initial.out l.out l.k l.p

abbrev pub decreases-loop-k : goal.decreases-loop-k
decreases-loop-k l = most_number + 1 - l.k
