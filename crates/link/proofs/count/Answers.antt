use mathlib.Core.Path.{sym, ◌∙◌}
use Rattle.link.proofs.LinkLaws.{length-link}
use Rattle.link.proofs.count.Goals as goal

pub returns : goal.returns
returns c =
    c.size.ensures ∙ sym (length-link c.args.j c.args.l c.args.link.now)
