use native.Mathlib.Omega.{arith}
use Rattle.print.proofs.WriteLaws.{at_most}
use Rattle.answer.proofs.TellLaws.{reply-wrote}
use Rattle.answer.proofs.tell.put_reply.Goals as goal

pub returns-in-Answer : goal.returns-in-Answer
returns-in-Answer c =
    reply-wrote c.args.image.now c.in-Answer.is
    c.put_answer.ensures

pub returns-in-Run : goal.returns-in-Run
returns-in-Run c =
    reply-wrote c.args.image.now c.in-Run.is
    c.put_run.ensures

pub returns-in-Found : goal.returns-in-Found
returns-in-Found c =
    let image = c.args.image.now in
    reply-wrote image c.in-Found.is (at_most (omega arith) c.put_found.ensures)
