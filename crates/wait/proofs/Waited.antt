-- The scale is usable as soon as promised.
use Rattle.wait.specs.Wait.{SoonUsable}
use Rattle.wait.proofs.Stages.{Turns}
use Rattle.wait.proofs.Follows.{follows}
use Rattle.wait.proofs.Heeds.{heeds}
use Rattle.wait.proofs.Acts.{acts}
use Rattle.wait.proofs.OneStep.{firsts}
use Rattle.wait.proofs.Progress.{progress}
use Rattle.wait.proofs.Soon.{soon}

turns : Turns
turns = record { follows = follows; heeds = heeds; acts = acts }

pub soon-usable : SoonUsable
soon-usable = soon (λ c s g. progress turns firsts c s g)
