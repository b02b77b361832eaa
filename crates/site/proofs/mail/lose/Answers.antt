-- The link without its head.
use Rattle.site.proofs.MailKnown.{head-lent, lost_known}
use Rattle.site.proofs.mail.lose.Goals as goal

pub returns : goal.returns
returns c =
    lost_known c.requires c.pop.ensures

pub pop-requires : goal.pop-requires
pop-requires c = let made = head-lent c.requires in record {
  links_lent = made.0;
  me_value = made.1.0;
  nonzero = made.1.1;
}
