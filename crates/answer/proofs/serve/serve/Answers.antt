use Rattle.answer.proofs.ServeLaws.{of-line, of-run, of-find}
use Rattle.answer.proofs.serve.serve.Goals as goal

pub returns-in-Line : goal.returns-in-Line
returns-in-Line c =
    of-line c.in-Line.is c.serve_line.ensures

pub returns-in-Run : goal.returns-in-Run
returns-in-Run c =
    of-run c.in-Run.is c.run_formed.ensures

pub returns-in-Find : goal.returns-in-Find
returns-in-Find c =
    of-find c.in-Find.is c.requires
    c.find_formed.ensures
