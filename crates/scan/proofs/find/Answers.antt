use Rattle.scan.proofs.ScanLaws.{found, not-found}
use Rattle.scan.proofs.find.Goals as goal

pub returns-in-Some-clause-place : goal.returns-in-Some-clause-place
returns-in-Some-clause-place c =
    found _ _ _ _ c.requires.order c.in-Some.is c.place.ensures

pub returns-in-None-clause-place : goal.returns-in-None-clause-place
returns-in-None-clause-place c =
    not-found _ _ _ _ c.requires.order c.requires.in_bounds c.in-None.is c.place.ensures
