-- `lines::arity` meets its contract. Of so many words `search` must be told each.
use Rattle.lines.proofs.arity.Goals as goal

pub returns-in-Site : goal.returns-in-Site
returns-in-Site c = simp c.in-Site.is

pub returns-in-Elect : goal.returns-in-Elect
returns-in-Elect c = simp c.in-Elect.is

pub returns-in-Recover : goal.returns-in-Recover
returns-in-Recover c = simp c.in-Recover.is

pub returns-in-Collect : goal.returns-in-Collect
returns-in-Collect c = simp c.in-Collect.is

pub returns-in-Ready : goal.returns-in-Ready
returns-in-Ready c = simp c.in-Ready.is

pub returns-in-Offer : goal.returns-in-Offer
returns-in-Offer c = simp c.in-Offer.is

pub returns-in-Propose : goal.returns-in-Propose
returns-in-Propose c = simp c.in-Propose.is

pub returns-in-Agree : goal.returns-in-Agree
returns-in-Agree c = simp c.in-Agree.is

pub returns-in-Finish : goal.returns-in-Finish
returns-in-Finish c = simp c.in-Finish.is

pub returns-in-Heard : goal.returns-in-Heard
returns-in-Heard c = simp c.in-Heard.is

pub returns-in-Trim : goal.returns-in-Trim
returns-in-Trim c = simp c.in-Trim.is

pub returns-in-Stop : goal.returns-in-Stop
returns-in-Stop c = simp c.in-Stop.is

pub returns-in-Return : goal.returns-in-Return
returns-in-Return c = simp c.in-Return.is

pub returns-in-Timeout : goal.returns-in-Timeout
returns-in-Timeout c = simp c.in-Timeout.is

pub returns-in-Lose : goal.returns-in-Lose
returns-in-Lose c = simp c.in-Lose.is

pub returns-in-Repeat : goal.returns-in-Repeat
returns-in-Repeat c = simp c.in-Repeat.is

pub returns-in-Mail : goal.returns-in-Mail
returns-in-Mail c = simp c.in-Mail.is

pub returns-in-Holds : goal.returns-in-Holds
returns-in-Holds c = simp c.in-Holds.is

pub returns-in-Other : goal.returns-in-Other
returns-in-Other c = simp c.in-Other.is
