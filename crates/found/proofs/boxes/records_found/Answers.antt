use Rattle.found.specs.Found.{records_found}
use Rattle.found.proofs.boxes.records_found.Goals as goal

pub returns : goal.returns
unfolding records_found
returns c =
    simp (
      c.unless.ensures,
      c.ended-behind.ensures,
      c.size.ensures,
    )
