-- `row::state_of` meets its contract.
use native.Mathlib.Omega.{arith}
use Rattle.row.proofs.NumberLaws.{state-rest}
use Rattle.row.proofs.state_of.Goals as goal

pub returns-in_default : goal.returns-in_default
returns-in_default c = state-rest c.args.x (omega arith)
