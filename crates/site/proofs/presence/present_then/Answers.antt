-- By the call.
use mathlib.Core.Path.{refl}
use Rattle.site.proofs.presence.present_then.Goals as goal

pub returns-in-Stop : goal.returns-in-Stop
returns-in-Stop c = rw c.in-Stop.is c.without_box.ensures

pub returns-in-Return : goal.returns-in-Return
returns-in-Return c = rw c.in-Return.is c.with_box.ensures

pub returns-in-Timeout : goal.returns-in-Timeout
returns-in-Timeout c = rw c.in-Timeout.is refl
