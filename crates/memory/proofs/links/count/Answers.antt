use mathlib.Core.Path.{ap, ◌∙◌}
use Rattle.memory.specs.After.{link_row}
use Rattle.memory.proofs.LinkLaws.{link-readable, link-length}
use Rattle.memory.proofs.links.count.Goals as goal

pub count-requires : goal.count-requires
count-requires c =
    let row = c.link_of.ensures ∙ ap (link_row c.args.s c.args.links.now)
    c.link_index-k.ensures.0 in
    link-readable c.args.s c.args.a c.args.b c.args.links.now c.requires.links_lent
    c.requires.b_value row

pub returns : goal.returns
returns c =
    let row = c.link_of.ensures ∙ ap (link_row c.args.s c.args.links.now)
    c.link_index-k.ensures.0 in
    c.count.ensures
    ∙ link-length c.args.s c.args.a c.args.b c.args.links.now c.requires.links_lent
    c.requires.b_value row
