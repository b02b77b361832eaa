-- `lists::number_in` meets its contract.
use mathlib.Core.Path.{ap, ◌∙◌}
use Rattle.lists.specs.Lists.{value_of, number_in}
use Rattle.lists.proofs.number_in.Goals as goal

pub returns : goal.returns
unfolding number_in
returns c = c.unwrap_or.ensures ∙ ap value_of c.read_one.ensures
