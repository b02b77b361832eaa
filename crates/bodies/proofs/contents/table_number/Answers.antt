-- `bodies::contents::table_number` meets its contract.
use native.Mathlib.Omega.{arith}
use mathlib.Core.Path.{◌∙◌}
use Rattle.bodies.specs.Contents.{table_number}
use Rattle.bodies.proofs.contents.table_number.Goals as goal

pub returns : goal.returns
unfolding table_number
returns c =
    let same = c.size.ensures in
    (same ∙ c.get_at.ensures.read, omega arith)
