-- `journal::own_told::journal_own_holds` meets its contract.
use mathlib.Core.Path.{◌∙◌, ap}
use Rattle.rules.specs.Numbers.{answer_number}
use Rattle.journal.proofs.own_told.journal_own_holds.Goals as goal

pub returns : goal.returns
returns c = c.answer_number.ensures ∙ ap answer_number c.holds.ensures
