use Rattle.salvage.specs.Tally.{flagged}
use Rattle.salvage.proofs.LoadLaws.{TallyTo}
use Rattle.salvage.proofs.loads.kept_by.Given as goal

abbrev pub invariant-loop-i : goal.invariant-loop-i
invariant-loop-i l = TallyTo (flagged l.kept) l.image l.n l.k l.i l.t
