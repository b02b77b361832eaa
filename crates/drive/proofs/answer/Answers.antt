-- `drive::answer` meets its contract.
use mathlib.Core.Path.{ap, ◌∙◌}
use native.Mathlib.Omega.{arith}
use Rattle.rules.specs.Numbers.{answer_number}
use Rattle.drive.proofs.DriveLaws.{step-answered, holds-answered}
use Rattle.drive.proofs.answer.Goals as goal

pub returns-then-which-lt-CALLS : goal.returns-then-which-lt-CALLS
returns-then-which-lt-CALLS c =
    step-answered c.args.which c.args.a c.args.b c.args.c c.args.d _ (omega arith)
    (omega arith) (omega arith)
    c.call_of-call.ensures c.step.ensures c.answer_number.ensures

pub returns : goal.returns
returns c =
    holds-answered c.args.site.now c.args.links.now c.args.which c.args.a c.args.b
    c.args.c c.args.d _
    (omega arith) (c.answer_number-2.ensures ∙ ap answer_number c.holds.ensures)
