use mathlib.Core.Path.{refl}
use Rattle.answer.proofs.AskLaws.{line-asked, run-asked}
use Rattle.answer.proofs.ask.read_ask.Goals as goal

pub returns-in-Site : goal.returns-in-Site
returns-in-Site c = line-asked _ _ refl c.read_line-l.ensures c.in-Site.is

pub returns-in-Call : goal.returns-in-Call
returns-in-Call c = line-asked _ _ refl c.read_line-l.ensures c.in-Call.is

pub returns-in-Holds : goal.returns-in-Holds
returns-in-Holds c = line-asked _ _ refl c.read_line-l.ensures c.in-Holds.is

pub returns-in-Unreadable : goal.returns-in-Unreadable
returns-in-Unreadable c =
    run-asked _ c.read_line-l.ensures c.in-Unreadable.is
    c.read_one-run.ensures c.read_find.ensures c.run_or.ensures
