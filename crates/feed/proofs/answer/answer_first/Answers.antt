use mathlib.Core.Path.{ap}
use Rattle.trace.specs.Stops.{opens}
use Rattle.feed.proofs.EngineLaws.{open_first, other-first}
use Rattle.feed.proofs.answer.answer_first.Goals as goal

pub returns-in-Site : goal.returns-in-Site
returns-in-Site c =
    open_first _ _ _ _ c.in-Site.is c.open_site.ensures

pub returns-in-Call : goal.returns-in-Call
returns-in-Call c = other-first _ _ _ (ap opens c.in-Call.is)

pub returns-in-Holds : goal.returns-in-Holds
returns-in-Holds c = other-first _ _ _ (ap opens c.in-Holds.is)

pub returns-in-Unreadable : goal.returns-in-Unreadable
returns-in-Unreadable c = other-first _ _ _ (ap opens c.in-Unreadable.is)
