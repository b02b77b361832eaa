-- `rules::sets::without_box` meets its contract.
use Rattle.rules.specs.Sets.{without}
use Rattle.rules.proofs.sets.without_box.Goals as goal

pub returns : goal.returns
unfolding without
returns c =
    simp
    c.bit_of.ensures.value
