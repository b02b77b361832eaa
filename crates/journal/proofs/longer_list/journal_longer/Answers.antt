-- `journal_longer` meets its contract.
use mathlib.Core.Path.{ap, ◌∙◌}
use Rattle.longer.specs.Longer.{longer_number}
use Rattle.journal.proofs.longer_list.journal_longer.Goals as goal

pub returns : goal.returns
returns c = c.longer_number.ensures ∙ ap longer_number c.longer_is.ensures
