-- `le::get_at` meets its contract, by the law of a part that `get` has read.
use Rattle.le.proofs.LeLaws.{get_in}
use Rattle.le.proofs.get_at.Goals as goal

pub returns : goal.returns
returns c =
    get_in c.args.k c.args.at c.args.src.now c.get.result c.requires.0 c.get.ensures
