-- Link k, cut out, is cleared, and all else is as it was.
use Rattle.memory.proofs.LinkLaws.{link-cut, cut-set, row_words}
use Rattle.memory.proofs.links.clear_link.Goals as goal

pub clear-requires : goal.clear-requires
clear-requires c =
    row_words c.args.s c.args.k c.args.links.now c.requires.k_bound c.requires.l_in_bounds
    c.requires.l_value
    (link-cut c.args.s c.args.k c.args.links.now c.link_row-start.ensures.0
    c.link_end-end.ensures)

pub returns : goal.returns
returns c =
    cut-set c.args.s c.args.k c.args.links.now c.link_row-start.ensures.0
    c.link_end-end.ensures c.requires.k_bound c.requires.l_in_bounds c.clear.ensures
