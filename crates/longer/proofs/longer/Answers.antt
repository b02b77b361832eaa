-- `longer::longer` meets its contract.
use mathlib.Core.Path.{subst}
use Rattle.longer.specs.Longer.{Part}
use Rattle.longer.proofs.longer.Goals as goal

pub returns : goal.returns
returns c =
    subst (λ w. Part w c.args.a c.args.b c.part_of.result) c.longer_is.ensures
    c.part_of.ensures
