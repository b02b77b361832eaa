-- `desk::pairs::leave` meets its contract: on one side, and then on the other.
use Rattle.desk.proofs.DeskLaws.{leaves-is}
use Rattle.desk.proofs.pairs.leave.Goals as goal

pub returns : goal.returns
returns c =
    leaves-is c.args.left c.args.right c.args.desk.now c.withdraw_from.ensures
    c.withdraw_from-2.ensures
