-- `agreed::agreed_count` meets its contract.
use native.Mathlib.Omega.{arith}
use Rattle.row.proofs.TurnLaws.{row-formed}
use Rattle.agreed.proofs.PlaceLaws.{first_next}
use Rattle.agreed.proofs.agreed_count.Goals as goal

pub overflow_add-after : goal.overflow_add-after
overflow_add-after c =
    omega (arith, (row-formed c.args.s c.args.row.now c.requires).readable.last)

pub overflow_sub-after : goal.overflow_sub-after
overflow_sub-after c =
    omega (arith, first_next c.args.s c.args.row.now c.requires)
