use Rattle.answer.proofs.ServeLaws.{stepped, held, unasked}
use mathlib.Core.Path.{refl}
use Rattle.answer.proofs.serve.serve_line.Goals as goal

pub returns-in-Site : goal.returns-in-Site
returns-in-Site c = unasked c.in-Site.is refl c.requires

pub returns-in-Call : goal.returns-in-Call
returns-in-Call c =
    stepped c.in-Call.is
    c.step_formed.ensures

pub returns-in-Holds : goal.returns-in-Holds
returns-in-Holds c =
    held c.in-Holds.is c.requires c.holds_formed.ensures

pub returns-in-Unreadable : goal.returns-in-Unreadable
returns-in-Unreadable c = unasked c.in-Unreadable.is refl c.requires
