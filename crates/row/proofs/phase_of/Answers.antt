-- `row::phase_of` meets its contract.
use native.Mathlib.Omega.{arith}
use Rattle.row.proofs.NumberLaws.{phase-rest}
use Rattle.row.proofs.phase_of.Goals as goal

pub returns-in_default : goal.returns-in_default
returns-in_default c = phase-rest c.args.x (omega arith)
