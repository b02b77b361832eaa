-- `journal::run::run_number` meets its contract.
use mathlib.Core.Path.{◌∙◌, sym, ap}
use Rattle.journal.specs.Run.{run_number}
use Rattle.journal.proofs.run.run_number.Goals as goal

pub returns-in-Stopped : goal.returns-in-Stopped
returns-in-Stopped c = c.stopped_number.ensures ∙ ap run_number (sym c.in-Stopped.is)
