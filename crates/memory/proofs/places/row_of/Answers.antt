use mathlib.Core.Path.{ap}
use Prim.Native.Nat.{ℕ, ◌+◌}
use Rattle.row.specs.Row.{row_width}
use Rattle.memory.proofs.PutLaws.{part_cut}
use Rattle.memory.proofs.places.row_of.Goals as goal

pub returns : goal.returns
returns c =
    part_cut (row_width c.args.s.j) c.args.site.now c.row_start-start.ensures.0
    (ap (λ (w : ℕ). c.row_start-start.result + w) c.row_width.ensures)
