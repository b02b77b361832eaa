use mathlib.Core.Path.{refl}
use native.Mathlib.Omega.{arith}
use Rattle.answer.specs.Text.{run_text}
use Rattle.answer.proofs.TellLaws.{refusal-wrote, run-wrote}
use Rattle.answer.proofs.tell.put_run.Goals as goal

pub returns-in-Ran : goal.returns-in-Ran
returns-in-Ran c =
    run-wrote c.args.image.now c.in-Ran.is
    c.put_ran.ensures

pub returns-in-Stopped : goal.returns-in-Stopped
returns-in-Stopped c =
    run-wrote c.args.image.now c.in-Stopped.is
    c.put_stopped.ensures

pub returns-in-Refused : goal.returns-in-Refused
unfolding run_text
returns-in-Refused c =
    let image = c.args.image.now in
    run-wrote image c.in-Refused.is
    (refusal-wrote _ image refl (omega arith) c.put_refusal.ensures)
