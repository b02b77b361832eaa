use Prim.Native.Nat.{◌+◌, ◌≤◌}
use Rattle.rules.specs.Sizes.{most_number}
use Rattle.salvage.specs.Tally.{flagged}
use Rattle.salvage.proofs.LoadLaws.{SkipTo}
use Rattle.salvage.proofs.loads.next_number.Given as goal

abbrev pub invariant-loop-i : goal.invariant-loop-i
invariant-loop-i l = SkipTo (flagged l.kept) l.image l.n l.k l.i l.m × (l.m ≤ most_number + 1)
