use Rattle.writer.proofs.EntryLaws.{space_one, entered-one}
use Rattle.writer.proofs.mail.write_mail.Goals as goal

pub write_links-end-requires : goal.write_links-end-requires
write_links-end-requires c = record {
  links_lent = c.requires.links_lent;
  room = space_one c.requires.space;
}

pub returns : goal.returns
returns c =
    entered-one c.requires.space c.write_links-end.ensures c.enter.ensures
