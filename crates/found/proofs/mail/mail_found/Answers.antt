use mathlib.Core.Path.{◌∙◌}
use Rattle.found.proofs.WalkLaws.{mail-told, mail-aside, handed-on}
use Rattle.found.proofs.mail.mail_found.Goals as goal

pub returns : goal.returns
returns c =
    mail-told c.args.n c.args.j c.args.l c.args.body.now
    c.walk_senders.ensures c.in_ok-q.was c.ended.ensures

pub returns-in_err-q : goal.returns-in_err-q
returns-in_err-q c =
    handed-on c.from_residual.result c.from_residual.ensures
    ∙ mail-aside c.args.n c.args.j c.args.l c.args.body.now
    c.walk_senders.ensures c.in_err-q.was
