-- `longer::is_beginning` meets its contract.
use mathlib.Core.Path.{◌∙◌}
use Rattle.longer.proofs.BeginLaws.{starts-begins}
use Rattle.longer.proofs.is_beginning.Goals as goal

pub returns : goal.returns
returns c = c.starts_with.ensures.value ∙ starts-begins c.args.shorter.now
    c.args.longer.now c.requires
