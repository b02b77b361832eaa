-- The link from a to me, cut out, loses its head.
use mathlib.Core.List.{tail}
use Rattle.memory.proofs.LinkLaws.{cut-some, by-done}
use Rattle.memory.proofs.links.pop.Goals as goal

pub pop-requires : goal.pop-requires
pop-requires c = let made = cut-some c.args.a c.args.s.me c.requires.links_lent c.requires.me_value
    c.link_start-start.ensures.0 c.link_end-end.ensures c.requires.nonzero in record {
      readable_link = made.0;
      nonzero = made.1;
    }

pub returns : goal.returns
returns c =
    by-done c.args.a c.args.s.me c.requires.links_lent c.requires.me_value
    c.link_start-start.ensures.0 c.link_end-end.ensures tail c.pop.ensures
