use Rattle.answer.specs.Text.{found_text}
use Rattle.answer.proofs.TellLaws.{found-wrote}
use Rattle.answer.proofs.tell.put_found.Goals as goal

pub returns-in-Ok : goal.returns-in-Ok
returns-in-Ok c = found-wrote c.in-Ok.is c.put_load.ensures

pub returns-in-Err : goal.returns-in-Err
unfolding found_text
returns-in-Err c = found-wrote c.in-Err.is c.put_refusal.ensures
