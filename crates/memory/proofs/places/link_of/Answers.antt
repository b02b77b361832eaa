use Rattle.memory.proofs.LinkLaws.{link-cut}
use Rattle.memory.proofs.places.link_of.Goals as goal

pub returns : goal.returns
returns c =
    link-cut c.args.s c.args.k c.args.links.now
    c.link_row-start.ensures.0
    c.link_end-end.ensures
