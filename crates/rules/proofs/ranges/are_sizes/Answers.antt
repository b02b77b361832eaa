-- `rules::ranges::are_sizes` meets its contract.
use mathlib.Core.Bool.{and_assoc, and-true}
use Rattle.rules.specs.Every.{all}
use Rattle.rules.specs.Sizes.{sizes_form}
use Rattle.rules.proofs.ranges.are_sizes.Goals as goal

pub returns : goal.returns
unfolding sizes_form all
returns c = simp (and_assoc, and-true)
