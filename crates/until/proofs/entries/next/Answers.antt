use mathlib.Core.Path.{sym}
use Rattle.until.proofs.GoneLaws.{by-mail, no-mail, by-leader}
use Rattle.until.proofs.entries.next.Goals as goal

pub returns-in-None : goal.returns-in-None
returns-in-None c =
    sym
    (by-leader c.args.site.now c.args.links.now c.leader_next.ensures
    (no-mail c.args.site.now c.args.links.now c.mail_next.ensures
    c.in-None.is))

pub returns-in-Some : goal.returns-in-Some
returns-in-Some c =
    sym
    (by-mail c.args.site.now c.args.links.now c.mail_next.ensures _
    c.in-Some.is)
