-- `lists::record_in` meets its contract.
use mathlib.Core.Path.{ap, ◌∙◌}
use Rattle.lists.specs.Lists.{number_in, record_from, record_in}
use Rattle.lists.proofs.record_in.Goals as goal

pub returns : goal.returns
unfolding record_in
returns c =
    c.record_from.ensures
    ∙ (λ i. record_from
    ((c.number_in-left.ensures ∙ ap number_in c.up_to.ensures) i)
    ((c.number_in-right.ensures ∙ ap number_in c.behind.ensures) i))
