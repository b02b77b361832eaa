-- `lists::up_to` meets its contract.
use Rattle.lists.proofs.FindLaws.{up-to-is}
use Rattle.lists.proofs.up_to.Goals as goal

pub returns : goal.returns
returns c =
    up-to-is c.args.b c.args.s.now c.find-e.ensures.place
