use mathlib.Core.Path.{ap, sym, ◌∙◌}
use Rattle.feed.specs.State.{formed}
use Rattle.feed.proofs.entries.is_formed.Goals as goal

pub returns-in-Going : goal.returns-in-Going
returns-in-Going c =
    c.is_by_form.ensures ∙ ap (λ t. formed t c.args.site.now c.args.links.now)
    (sym c.in-Going.is)
