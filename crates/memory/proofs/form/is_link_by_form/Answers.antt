use mathlib.Core.Path.{sym, ap, ◌∙◌}
use native.Mathlib.Nat.{add-sub_cancel}
use Rattle.link.specs.Link.{link_form}
use Rattle.memory.specs.After.{link_row}
use Rattle.memory.proofs.LinkLaws.{row_words}
use Rattle.memory.proofs.form.is_link_by_form.Goals as goal

pub is_by_form-requires : goal.is_by_form-requires
is_by_form-requires c =
    row_words c.args.s c.args.k c.args.links.now c.requires.k_bound c.requires.l_in_bounds
    c.requires.l_value c.link_of.ensures

pub returns : goal.returns
returns c =
    let t = c.args.s in
    c.is_by_form.ensures
    ∙ ap (link_form c.args.s.j c.args.s.l)
    (c.link_of.ensures ∙ ap (link_row t c.args.links.now)
    (sym (add-sub_cancel c.args.k 1)))
