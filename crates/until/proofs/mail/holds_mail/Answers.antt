use Rattle.until.proofs.MailLaws.{no-link, is-other, link-mail}
use Rattle.until.proofs.mail.holds_mail.Goals as goal

pub returns-then-a-b : goal.returns-then-a-b
returns-then-a-b c =
    no-link c.args.s c.args.links.now c.args.a c.args.b c.if-a-b.true

pub count-requires : goal.count-requires
count-requires c = record {
  links_lent = c.requires.links_lent;
  b_value = is-other c.args.s c.args.links.now c.args.a c.args.b c.requires.a_value
      c.requires.b_value
      c.if-a-b.false;
}

pub returns : goal.returns
returns c =
    link-mail c.args.s c.args.links.now c.args.a c.args.b c.if-a-b.false c.count.ensures
