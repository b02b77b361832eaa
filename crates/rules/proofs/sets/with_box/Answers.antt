-- `rules::sets::with_box` meets its contract.
use Rattle.rules.specs.Sets.{joined}
use Rattle.rules.proofs.sets.with_box.Goals as goal

pub returns : goal.returns
unfolding joined
returns c =
    simp
    c.bit_of.ensures.value
