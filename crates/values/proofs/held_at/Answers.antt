-- `values::held_at` meets its contract.
use mathlib.Core.Path.{◌∙◌}
use Rattle.values.proofs.RecordLaws.{held_there}
use Rattle.values.proofs.held_at.Goals as goal

pub returns : goal.returns
returns c = c.copied.ensures ∙ held_there _ _ _ c.get.ensures.lookup
