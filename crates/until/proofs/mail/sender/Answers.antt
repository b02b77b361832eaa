use mathlib.Core.Path.{◌∙◌}
use Rattle.site.proofs.KnownLaws.{general-lent, knows-of, links-lent}
use Rattle.until.proofs.MailLaws.{sender-is}
use Rattle.until.proofs.mail.sender.Goals as goal

pub returns : goal.returns
returns c =
    c.first_sender.ensures
    ∙ sender-is c.args.site.now c.args.links.now 0
    c.setting_of-s.ensures

pub setting_of-s-requires : goal.setting_of-s-requires
setting_of-s-requires c = general-lent _ _ c.requires

pub first_sender-requires : goal.first_sender-requires
first_sender-requires c = links-lent (knows-of c.requires 0 c.setting_of-s.ensures)
