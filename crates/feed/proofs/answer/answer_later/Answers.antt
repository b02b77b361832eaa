use mathlib.Core.Path.{ap}
use Rattle.trace.specs.Stops.{plays}
use Rattle.feed.proofs.EngineLaws.{past-last, called, asked, misplaced}
use Rattle.feed.proofs.answer.answer_later.Goals as goal

pub returns-in-Site : goal.returns-in-Site
returns-in-Site c = misplaced _ _ _ c.if-k-gt4294967295.false _ (ap plays c.in-Site.is)

pub returns-in-Call : goal.returns-in-Call
returns-in-Call c =
    called _ _ _ c.if-k-gt4294967295.false _ _ _ _ _ c.in-Call.is
    c.step_formed.ensures

pub returns-in-Holds : goal.returns-in-Holds
returns-in-Holds c =
    asked _ _ _ c.if-k-gt4294967295.false _ _ _ _ _ _ c.in-Holds.is
    c.holds_formed.ensures c.requires

pub returns-in-Unreadable : goal.returns-in-Unreadable
returns-in-Unreadable c = misplaced _ _ _ c.if-k-gt4294967295.false _ (ap plays c.in-Unreadable.is)

pub returns-then-k-gt4294967295 : goal.returns-then-k-gt4294967295
returns-then-k-gt4294967295 c = past-last _ _ _ _ c.if-k-gt4294967295.true
