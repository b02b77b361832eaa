-- `journal::run::stopped_number` meets its contract.
use native.Mathlib.Omega.{arith}
use Rattle.journal.proofs.NumberedLaws.{refusal-number}
use Rattle.journal.proofs.run.stopped_number.Goals as goal

pub overflow_add-result : goal.overflow_add-result
overflow_add-result c = omega (arith, c.refusal_number.ensures, (refusal-number c.args.why).1)
