use Rattle.wording.specs.Fault.{overspaced}
use Rattle.wording.proofs.fault.is_overspaced.Goals as goal

pub returns : goal.returns
unfolding overspaced
returns c =
    simp (
      c.has.ensures,
      c.last.ensures,
      c.starts.ensures,
    )
