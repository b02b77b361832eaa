-- `lists::put_said` meets its contract.
use Rattle.lists.proofs.LineLaws.{which-said, unread-said}
use Rattle.lists.proofs.put_said.Goals as goal

pub returns-in-Some : goal.returns-in-Some
returns-in-Some c =
    which-said c.args.line.now c.in-Some.is c.put_which.ensures

pub returns-in-None : goal.returns-in-None
returns-in-None c =
    unread-said c.args.line.now c.in-None.is
    c.put_bytes.ensures
