-- `lists::behind` meets its contract.
use Rattle.lists.proofs.FindLaws.{behind-is, none-behind}
use Rattle.lists.proofs.behind.Goals as goal

pub returns-then-e-n : goal.returns-then-e-n
returns-then-e-n c =
    behind-is c.args.b c.args.s.now c.find-e.ensures.place

pub returns : goal.returns
returns c =
    none-behind c.args.b c.args.s.now c.find-e.ensures.place c.if-e-n.false
