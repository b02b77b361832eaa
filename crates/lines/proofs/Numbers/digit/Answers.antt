-- `lines::Numbers::digit` meets its contract.
use mathlib.Core.Path.{sym, ◌∙◌, ap}
use Rattle.lines.specs.Read.{with_grown}
use Rattle.lines.proofs.Numbers.digit.Goals as goal

pub returns-in-Some : goal.returns-in-Some
returns-in-Some c =
    ap (with_grown c.args.self)
    (sym c.in-Some.is ∙ c.grow.ensures)

pub returns-in-None : goal.returns-in-None
returns-in-None c = ap (with_grown c.args.self) (sym c.in-None.is
    ∙ c.grow.ensures)
