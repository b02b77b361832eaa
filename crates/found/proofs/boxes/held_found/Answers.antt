use Rattle.found.specs.Found.{held_found}
use Rattle.found.proofs.boxes.held_found.Goals as goal

pub returns : goal.returns
unfolding held_found
returns c =
    simp (
      c.records_found.ensures,
      c.leading-m.ensures.value,
      c.number_at-count.ensures.value,
      c.number_at-first.ensures.value,
    )
