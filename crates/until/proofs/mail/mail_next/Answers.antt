-- The sender is looked for first, and then its receiver.
use Rattle.site.proofs.KnownLaws.{general-lent, knows-of, links-lent}
use Rattle.until.proofs.MailLaws.{no-mail, first-mail, sender-box}
use Rattle.until.proofs.mail.mail_next.Goals as goal

pub returns-then-a-eq0 : goal.returns-then-a-eq0
returns-then-a-eq0 c =
    no-mail c.args.site.now c.args.links.now 0 c.setting_of-s.ensures
    c.first_sender-a.ensures c.if-a-eq0.true

pub first_receiver-b-requires : goal.first_receiver-b-requires
first_receiver-b-requires c = record {
  links_lent = links-lent (knows-of c.requires 0 c.setting_of-s.ensures);
  a_value = sender-box c.setting_of-s.result c.args.links.now
      c.first_sender-a.ensures c.if-a-eq0.false;
}

pub returns : goal.returns
returns c =
    first-mail c.args.site.now c.args.links.now 0 c.setting_of-s.ensures
    c.first_sender-a.ensures c.if-a-eq0.false c.first_receiver-b.ensures

pub setting_of-s-requires : goal.setting_of-s-requires
setting_of-s-requires c = general-lent _ _ c.requires

pub first_sender-a-requires : goal.first_sender-a-requires
first_sender-a-requires c = links-lent (knows-of c.requires 0 c.setting_of-s.ensures)
