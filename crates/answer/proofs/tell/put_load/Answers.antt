use mathlib.Core.Path.{ap}
use Rattle.std.specs.Prelude.{Ok}
use Rattle.answer.proofs.TellLaws.{found-wrote}
use Rattle.answer.proofs.tell.put_load.Goals as goal

pub returns-in-Some : goal.returns-in-Some
returns-in-Some c = found-wrote (ap Ok c.in-Some.is) c.put_number.ensures

pub returns-in-None : goal.returns-in-None
returns-in-None c = found-wrote (ap Ok c.in-None.is) c.put_none.ensures
