-- The head of the link from a to me, cut out, stands in the links too.
use Rattle.memory.proofs.LinkLaws.{cut-some, head_done}
use Rattle.memory.proofs.links.head_start.Goals as goal

pub head_at-requires : goal.head_at-requires
head_at-requires c = let made = cut-some c.args.a c.args.s.me c.requires.links_lent
    c.requires.me_value
    c.link_start-start.ensures.0 c.link_end-end.ensures c.requires.nonzero in record {
      readable_link = made.0;
      nonzero = made.1;
    }

pub returns : goal.returns
returns c =
    head_done c.args.a c.requires.links_lent c.requires.me_value c.link_start-start.ensures.0
    c.link_end-end.ensures c.head_at.ensures
